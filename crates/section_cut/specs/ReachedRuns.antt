-- Changes of blocks, signals and routes: the runs whose paths they change, and these runs' rows.
use Rattle.std.specs.Prelude.{◌≡◌, ℕ, ◌<◌, ◌≤◌, ⊤, Bool, true, false, List, [], length, slice_index_or, Option, Some, None, option_map, IfSome}
use Rattle.rail_model.specs.declared.items.Run.{Run}
use Rattle.rail_model.specs.declared.items.Section.{Section}
use Rattle.rail_model.specs.declared.items.Signal.{Signal}
use Rattle.rail_model.specs.declared.items.Item.{Item}
use Rattle.rail_model.specs.declared.items.Item.TheVariants as item
use Rattle.rail_model.specs.declared.edit.Edit.{Edit}
use Rattle.rail_model.specs.declared.edit.Edit.TheVariants as edit
use Rattle.rail_model.specs.declared.stair.Use.{Use}
use Rattle.rail_model.specs.declared.stair.Stair.{Stair}
use Rattle.rail_model.specs.declared.tables.Tables.{Tables}
use Rattle.rail_model.specs.Rules.{after_change}
use Rattle.rail_model.specs.Name.{is_same}
use Rattle.rail_model.specs.Tables.{no_run, run_at, block_name, path_in}
use Rattle.line_tables.specs.Passing.{passes_block, passes_signal}
use Rattle.plan_model.specs.declared.cut.CutRow.{CutRow}
use Rattle.plan_model.specs.Cut.{stamped_row, AreBlocksFirst, position_in_section, section_uses}
use Rattle.section_cut.specs.Connected.{block_part, with_rest}
use Rattle.section_cut.specs.Members.{member_row}
use Rattle.section_cut.specs.Stamps.{IsStamped}
use Rattle.section_cut.specs.Positions.{uses_in}
use Rattle.section_cut.specs.Wanted.{IsStairOf}

-- a put of a signal or a route, or a change of a block, a signal or a route
abbrev pub PutKeepsBlocks : Item → Type 0
PutKeepsBlocks (item.Block b) = ⊥
PutKeepsBlocks (item.Signal s) = ⊤
PutKeepsBlocks (item.Route r) = ⊤
PutKeepsBlocks (item.Run r) = ⊥
PutKeepsBlocks (item.Section s) = ⊥
PutKeepsBlocks (item.Connection c) = ⊥

abbrev pub ChangeKeepsBlocks : Item → Type 0
ChangeKeepsBlocks (item.Block b) = ⊤
ChangeKeepsBlocks (item.Signal s) = ⊤
ChangeKeepsBlocks (item.Route r) = ⊤
ChangeKeepsBlocks (item.Run r) = ⊥
ChangeKeepsBlocks (item.Section s) = ⊥
ChangeKeepsBlocks (item.Connection c) = ⊥

abbrev pub KeepsBlocks : Edit → Type 0
KeepsBlocks (edit.Put x) = PutKeepsBlocks x
KeepsBlocks (edit.Change x) = ChangeKeepsBlocks x
KeepsBlocks (edit.Drop k n) = ⊥

-- the tables have the same runs, the same sections, the same connections and blocks of the same names
pub record IsSameTraffic (earlier later : Tables) : Type 0 where
  pub runs : later.runs ≡ earlier.runs
  pub sections : later.sections ≡ earlier.sections
  pub connections : later.connections ≡ earlier.connections
  pub names : (block : ℕ) → block_name later block ≡ block_name earlier block

-- a run's stair by the later tables, or none where its path is the same by both
abbrev pub IsStairIfReached : Tables → Tables → Option ℕ → Run → Option Stair → Type 0
IsStairIfReached earlier later block run (Some stair) = IsStairOf later block run stair
IsStairIfReached earlier later block run None = path_in later run ≡ path_in earlier run

-- all runs have the uses that they had in each section that hasn't this block
abbrev pub StayBeside : Tables → Tables → ℕ → Type 0
StayBeside earlier later block =
    (section : Section) → length section.blocks ≤ position_in_section later section block
    → (run : Run) → section_uses later section run ≡ section_uses earlier section run

-- of each run, in the order of the runs' names, its stair or none
pub record AreReachedRuns (earlier later : Tables) (block : Option ℕ) (stairs : List (Option Stair)) : Type 0 where
  pub same : IsSameTraffic earlier later
  pub count : length stairs ≡ length later.runs
  pub each : (n : ℕ) (d : Option Stair) → n < length later.runs
      → IsStairIfReached earlier later block (run_at later n) (slice_index_or stairs n d)

-- the uses of a stair, if it is there
abbrev pub uses_if_there : Option Stair → List Use
uses_if_there None = []
uses_if_there (Some stair) = stair.uses

-- a run's row in a section: by its stair, if that is reached, with the uses of connections that it
-- had; and otherwise the row that it had, if it had one
abbrev pub row_after : Section → List ℕ → Option Stair → Option CutRow → Option CutRow
row_after section positions (Some stair) old =
    option_map (with_rest section old) (member_row section stair.run 0 (uses_in positions (length section.blocks) stair.uses))
row_after section positions None old = old

-- a row has the value of a member of this name with its uses of blocks, and these stand first
pub record IsOwnRow (section : Section) (name : List ℕ) (row : CutRow) : Type 0 where
  pub member : member_row section name 0 (block_part section row.uses) ≡ Some (record row { stamp = 0; uses = block_part section row.uses })
  pub first : AreBlocksFirst (length section.blocks) row.uses

-- a row has its value, if it is there, by the stair of its run
abbrev pub StaysRow : Section → List ℕ → Option Stair → Option CutRow → Type 0
StaysRow section positions stair own =
    row_after section positions stair (option_map (stamped_row 0) own) ≡ option_map (stamped_row 0) own

-- a row has this value after the edit of a number, and its stamp by the run's own row before the edit; or neither is
-- there
pub record IsRowAfter (bare : Option CutRow) (number : ℕ) (own row : Option CutRow) : Type 0 where
  pub value : option_map (stamped_row 0) row ≡ bare
  pub stamp : IfSome row (IsStamped number own)

-- ---- the runs that pass what is edited

-- a run is on the route of a name
abbrev pub is_on : List ℕ → Run → Bool
is_on name run = is_same run.route name

-- a run passes a block or a signal, or is on a route
abbrev pub passes_item : Tables → Item → Run → Bool
passes_item tables (item.Block b) run = passes_block tables b.name run
passes_item tables (item.Signal s) run = passes_signal tables s.name run
passes_item tables (item.Route r) run = is_on r.name run
passes_item tables (item.Run r) run = true
passes_item tables (item.Section s) run = true
passes_item tables (item.Connection c) run = true

-- it passes what an edit puts or changes
abbrev pub passes : Tables → Edit → Run → Bool
passes tables (edit.Put x) run = passes_item tables x run
passes tables (edit.Change x) run = passes_item tables x run
passes tables (edit.Drop k n) run = true

-- of each run it is told that it fails a test, or nothing
pub record IsTold (test : Run → Bool) (runs : List Run) (told : List Bool) : Type 0 where
  pub count : length told ≡ length runs
  pub each : (n : ℕ) (d : Bool) → n < length runs → slice_index_or told n d ≡ false → test (slice_index_or runs n no_run) ≡ false

-- ---- the block whose uses alone an edit moves

-- tables with another signal in the place of the one of its name
abbrev pub changed_signal : Tables → Signal → Tables
changed_signal tables s = after_change tables (item.Signal s)
