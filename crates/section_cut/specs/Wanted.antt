-- The sections that an edit can touch where it moves the uses of one block alone, and stairs with the uses of their
-- blocks.
use Rattle.std.specs.Prelude.{◌≡◌, ℕ, ◌<◌, ◌≤◌, Bool, true, false, All, List, length, slice_index, slice_index_or, Option, Some, None}
use Rattle.rail_model.specs.declared.items.Run.{Run}
use Rattle.rail_model.specs.declared.items.Section.{Section}
use Rattle.rail_model.specs.declared.path.Path.{Path}
use Rattle.rail_model.specs.declared.stair.Stair.{Stair}
use Rattle.rail_model.specs.declared.tables.Tables.{Tables}
use Rattle.rail_model.specs.Blocking.{stair_of}
use Rattle.rail_model.specs.Tables.{section_at}
use Rattle.blocking_time.specs.Blocking.{stair_on}
use Rattle.plan_model.specs.Cut.{position_in_section, section_uses}
use Rattle.section_cut.specs.OneRun.{uses_of_section}

-- a block is given that isn't in a section of so many blocks, by the table of positions
abbrev pub IsBeside : Option ℕ → List ℕ → ℕ → Type 0
IsBeside None positions blocks = ⊥
IsBeside (Some block) positions blocks = (block < length positions) × (blocks ≤ slice_index positions block)

-- a block is given that isn't in a section
abbrev pub LacksBlock : Tables → Option ℕ → Section → Type 0
LacksBlock tables None section = ⊥
LacksBlock tables (Some block) section =
    (block < length tables.blocks) × (length section.blocks ≤ position_in_section tables section block)

-- a section of the tables that doesn't lack the block
pub record IsTouched (tables : Tables) (block : Option ℕ) (section : Section) : Type 0 where
  pub place : ℕ
  pub there : place < length tables.sections
  pub at : section_at tables place ≡ section
  pub has : LacksBlock tables block section → ⊥

-- a stair of a run with its uses in these sections
pub record IsStairOf (tables : Tables) (block : Option ℕ) (run : Run) (stair : Stair) : Type 0 where
  pub name : stair.run ≡ run.name
  pub there : All (λ u. u.block < length tables.blocks) stair.uses
  pub uses : (s : Section) → IsTouched tables block s → uses_of_section tables s stair.uses ≡ section_uses tables s run

-- all blocks of a section are told, and those of all these sections
abbrev pub HasSection : Tables → Section → List Bool → Type 0
HasSection tables section told =
    (b : ℕ) → b < length tables.blocks → position_in_section tables section b < length section.blocks → slice_index_or told b false ≡ true

abbrev pub HasAll : Tables → Option ℕ → List Bool → Type 0
HasAll tables block told = (s : Section) → IsTouched tables block s → HasSection tables s told

-- a run's stair with its uses of the blocks that are told, or with all where none are
abbrev pub stair_wanted : Option (List Bool) → Path → Stair
stair_wanted None path = stair_of path
stair_wanted (Some told) path = stair_on told path

-- told are, beside those told before, the blocks below a place that are in a section of so many, by the table of positions
pub record IsAddedTo (positions : List ℕ) (blocks place : ℕ) (old new : List Bool) : Type 0 where
  pub count : length new ≡ length old
  pub kept : (b : ℕ) → slice_index_or old b false ≡ true → slice_index_or new b false ≡ true
  pub added : (b : ℕ) → b < place → slice_index positions b < blocks → slice_index_or new b false ≡ true

-- and beside those told before, all blocks of a section, if it has this block
pub record IsWithSection (tables : Tables) (block : Option ℕ) (section : Section) (old new : List Bool) : Type 0 where
  pub count : length new ≡ length old
  pub kept : (b : ℕ) → slice_index_or old b false ≡ true → slice_index_or new b false ≡ true
  pub added : (LacksBlock tables block section → ⊥) → HasSection tables section new
