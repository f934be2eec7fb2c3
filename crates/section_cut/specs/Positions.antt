-- Where the blocks of the tables stand in a section's list, by their numbers.
use Rattle.std.specs.Prelude.{◌≡◌, ◌≢◌, ℕ, ◌<◌, ◌≤◌, nat_lt, if◌then◌else◌, All, List, length, map, filter, take, slice_index, slice_set}
use Rattle.rail_model.specs.declared.items.Section.{Section}
use Rattle.rail_model.specs.declared.tables.Tables.{Tables}
use Rattle.rail_model.specs.declared.stair.Use.{Use}
use Rattle.rail_model.specs.Name.{is_same}
use Rattle.rail_model.specs.Tables.{block_name}
use Rattle.plan_model.specs.Cut.{position_in_section}

-- the table of positions has for each block of the tables its position in the section's list, or
-- the list's length where it isn't there
pub record IsPositions (tables : Tables) (section : Section) (positions : List ℕ) : Type 0 where
  pub count : length positions ≡ length tables.blocks
  pub each : (block : ℕ) → block < length tables.blocks
      → slice_index positions block ≡ position_in_section tables section block

-- the second table is the first with this position for the block of a name, if there is one
pub record IsPlaced (tables : Tables) (name : List ℕ) (position : ℕ) (before after : List ℕ) : Type 0 where
  pub count : length after ≡ length before
  pub each : (block : ℕ) → block < length tables.blocks
      → slice_index after block
      ≡ (if is_same name (block_name tables block) then position else slice_index before block)

-- a use with its block by a table of positions
abbrev pub with_position : List ℕ → Use → Use
with_position positions u = record u { block = slice_index positions u.block }

-- of some uses those in a section of this many blocks
abbrev pub uses_in : List ℕ → ℕ → List Use → List Use
uses_in positions blocks uses = filter (λ u. nat_lt u.block blocks) (map (with_position positions) uses)

-- these are uses by their positions, all in a section of this many blocks
pub record ArePlaced (positions : List ℕ) (blocks : ℕ) (uses placed : List Use) : Type 0 where
  pub are : placed ≡ map (with_position positions) uses
  pub inside : All (λ u. u.block < blocks) placed

-- of uses one is made this one by its position, and all are in a section of this many blocks
pub record IsUsePlaced (positions : List ℕ) (blocks : ℕ) (one : Use) (i : ℕ) (uses placed : List Use) : Type 0 where
  pub set : placed ≡ slice_set uses i (with_position positions one)
  pub inside : All (λ u. u.block < blocks) placed

-- this many of these uses are those of a stairway by their positions
pub record AreSameTo (positions : List ℕ) (uses stairway : List Use) (n : ℕ) : Type 0 where
  pub within : n ≤ length uses
  pub same : map (with_position positions) (take n stairway) ≡ take n uses

-- the first of these uses are those of a stairway by their positions, and the next one, if there is
-- one, isn't
pub record AreSameFirst (positions : List ℕ) (uses stairway : List Use) (n : ℕ) : Type 0 where
  pub so_far : AreSameTo positions uses stairway n
  pub differs : n < length uses → map (with_position positions) stairway ≢ uses
