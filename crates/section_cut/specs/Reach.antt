-- Which rows of cuts an edit can reach.
use Rattle.std.specs.Prelude.{◌≡◌, ◌≢◌, ⊤, false, All, ℕ, List, map, Option, Some, None, IfSome}
use Rattle.rail_model.specs.declared.items.Item.{Item}
use Rattle.rail_model.specs.declared.items.Item.TheVariants as item
use Rattle.rail_model.specs.declared.edit.Kind.{Kind}
use Rattle.rail_model.specs.declared.edit.Kind.TheVariants as kind
use Rattle.rail_model.specs.declared.edit.Edit.{Edit}
use Rattle.rail_model.specs.declared.edit.Edit.TheVariants as edit
use Rattle.rail_model.specs.declared.tables.Tables.{Tables}
use Rattle.rail_model.specs.Rules.{has_block}
use Rattle.rail_model.specs.Conflict.{timetable}
use Rattle.plan_model.specs.Cut.{cut_of}
use Rattle.section_cut.specs.declared.reach.Reach.{Reach}
use Rattle.section_cut.specs.declared.reach.Reach.TheVariants as reach
use Rattle.section_cut.specs.declared.reach.RowReach.{RowReach}
use Rattle.section_cut.specs.declared.reach.RowReach.TheVariants as rows
use Rattle.section_cut.specs.Connected.{is_joined}
use Rattle.section_cut.specs.ReachedRuns.{AreReachedRuns, IsTold, StayBeside, uses_if_there}
use Rattle.section_cut.specs.Spans.{AreOver}
use Rattle.section_cut.specs.declared.reached_runs.ReachedRuns.{ReachedRuns}
use Rattle.section_cut.specs.OneRun.{before, behind}
use Rattle.section_cut.specs.EditedRun.{IsEditedRun}
use Rattle.section_cut.specs.EditedConnection.{IsEditedConnection, IsMinimumChanged}

-- the section that an item is, and that items of a kind are, by its name
abbrev pub section_of_item : Item → Option (List ℕ)
section_of_item (item.Block b) = None
section_of_item (item.Signal s) = None
section_of_item (item.Route r) = None
section_of_item (item.Run r) = None
section_of_item (item.Section s) = Some s.name
section_of_item (item.Connection c) = None

abbrev pub section_of_kind : Kind → List ℕ → Option (List ℕ)
section_of_kind kind.Block n = None
section_of_kind kind.Signal n = None
section_of_kind kind.Route n = None
section_of_kind kind.Run n = None
section_of_kind kind.Section n = Some n
section_of_kind kind.Connection n = None

-- the name of the section that an edit puts, changes or drops, if it is an edit of a section
abbrev pub section_edited : Edit → Option (List ℕ)
section_edited (edit.Put x) = section_of_item x
section_edited (edit.Change x) = section_of_item x
section_edited (edit.Drop k n) = section_of_kind k n

-- the tables differ in the section of a name alone
pub record IsOneSection (earlier later : Tables) (name : List ℕ) : Type 0 where
  pub others : later ≡ record earlier { sections = later.sections }
  pub front : before (λ s. s.name) name later.sections ≡ before (λ s. s.name) name earlier.sections
  pub back : behind (λ s. s.name) name later.sections ≡ behind (λ s. s.name) name earlier.sections

-- a put of a block that isn't there, or of a route that no run is on
abbrev pub PutReachesNoRun : Tables → Item → Type 0
PutReachesNoRun tables (item.Block b) = has_block tables b.name ≡ false
PutReachesNoRun tables (item.Signal s) = ⊥
PutReachesNoRun tables (item.Route r) = All (λ run. run.route ≢ r.name) tables.runs
PutReachesNoRun tables (item.Run r) = ⊥
PutReachesNoRun tables (item.Section s) = ⊥
PutReachesNoRun tables (item.Connection c) = ⊥

-- a drop of a block, a signal or a route
abbrev pub DropReachesNoRun : Kind → Type 0
DropReachesNoRun kind.Block = ⊤
DropReachesNoRun kind.Signal = ⊤
DropReachesNoRun kind.Route = ⊤
DropReachesNoRun kind.Run = ⊥
DropReachesNoRun kind.Section = ⊥
DropReachesNoRun kind.Connection = ⊥

-- the edit is one of these
abbrev pub ReachesNoRun : Tables → Edit → Type 0
ReachesNoRun tables (edit.Put x) = PutReachesNoRun tables x
ReachesNoRun tables (edit.Change x) = ⊥
ReachesNoRun tables (edit.Drop k n) = DropReachesNoRun k

-- no cut differs
abbrev pub AreSameCuts : Tables → Tables → Type 0
AreSameCuts earlier later = (section : List ℕ) → cut_of later section ≡ cut_of earlier section

-- the runs whose paths the tables tell apart: their stairs, the lists of blocks of these, and what is told of
-- connections; and the block whose uses alone move, where it is known
pub record AreRunsOf (earlier later : Tables) (runs : ReachedRuns) : Type 0 where
  pub stairs : AreReachedRuns earlier later runs.block runs.stairs.items
  pub over : AreOver (map uses_if_there runs.stairs.items) runs.over
  pub joined : IsTold (is_joined earlier) earlier.runs runs.joined.items
  pub block : IfSome runs.block (StayBeside earlier later)

-- no other rows can differ between cuts by earlier tables and by later ones
abbrev pub IsRowReach : Tables → Tables → RowReach → Type 0
IsRowReach earlier later rows.Nothing = AreSameCuts earlier later
IsRowReach earlier later (rows.Run run) = IsEditedRun earlier later run
IsRowReach earlier later (rows.Connection edited) = IsEditedConnection earlier later edited
IsRowReach earlier later (rows.Minimum c) = IsMinimumChanged earlier later c
IsRowReach earlier later (rows.Runs runs) = AreRunsOf earlier later runs

abbrev pub IsReach : Tables → Tables → Reach → Type 0
IsReach earlier later (reach.All stairs) = stairs ≡ timetable later
IsReach earlier later (reach.Section name) = IsOneSection earlier later name
IsReach earlier later (reach.Rows r) = IsRowReach earlier later r
