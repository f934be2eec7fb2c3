-- What is known of the run that an edit puts, changes or drops, and what becomes of a cut by it.
use Rattle.std.specs.Prelude.{◌≡◌, ◌≢◌, ◌⊎◌, ◌<◌, ◌≤◌, true, List, ℕ, length, filter, insert, remove, slice_index_or, slice_set, Option, Some, None, IfSome}
use Rattle.rail_model.specs.declared.items.Section.{Section}
use Rattle.rail_model.specs.declared.stair.Stair.{Stair}
use Rattle.rail_model.specs.declared.stair.Use.{Use}
use Rattle.rail_model.specs.declared.tables.Tables.{Tables}
use Rattle.rail_model.specs.Rules.{has_run}
use Rattle.rail_model.specs.Tables.{run_named}
use Rattle.plan_model.specs.declared.cut.CutRow.{CutRow}
use Rattle.plan_model.specs.Cut.{stamped_row}
use Rattle.plan_model.specs.Members.{no_member}
use Rattle.section_cut.specs.declared.cut_changes.CutChange.{CutChange}
use Rattle.section_cut.specs.declared.cut_changes.CutChange.TheVariants as change
use Rattle.section_cut.specs.declared.one_run.EditedRun.{EditedRun}
use Rattle.section_cut.specs.Connected.{joins}
use Rattle.section_cut.specs.OneRun.{IsOneRun, uses_of_section}
use Rattle.section_cut.specs.Times.{with_times}

-- the run of a name is there by both tables, on one route
pub record KeepsRoute (earlier later : Tables) (name : List ℕ) : Type 0 where
  pub before : has_run earlier name ≡ true
  pub after : has_run later name ≡ true
  pub route : (run_named later name).route ≡ (run_named earlier name).route

-- the tables differ in this run alone, the stair is its own, where it says so, its route is kept, and
-- these are its connections
pub record IsEditedRun (earlier later : Tables) (run : EditedRun) : Type 0 where
  pub one : IsOneRun earlier later run.name run.stair
  pub route : run.keeps_route ≡ true → KeepsRoute earlier later run.name
  pub joined : run.joined ≡ filter (joins run.name) later.connections

-- these uses, with the times of a stair of as many, are the stair's uses of a section
abbrev pub KeepsPlaces : Tables → Section → Option Stair → List Use → Type 0
KeepsPlaces tables section stair uses =
    IfSome stair (λ s. length uses ≡ length s.uses → with_times uses s.uses ≡ uses_of_section tables section s.uses)

-- this is the row at a place of these rows, or the place is one of theirs or behind them
abbrev pub StandsAt : List CutRow → ℕ → Option CutRow → Type 0
StandsAt rows at (Some own) = (at < length rows) × (slice_index_or rows at no_member ≡ own)
StandsAt rows at None = at ≤ length rows

-- what becomes of a cut where its own row at a place, if there is one, is to be this one, or to go
abbrev pub IsPut : ℕ → Option CutRow → Option CutRow → CutChange → Type 0
IsPut at None None result = result ≡ change.Untouched
IsPut at None (Some row) result = result ≡ change.Inserted at row
IsPut at (Some own) None result = result ≡ change.Removed at
IsPut at (Some own) (Some row) result =
    ((stamped_row 0 own ≡ stamped_row 0 row) × (result ≡ change.Untouched))
    ⊎ ((stamped_row 0 own ≢ stamped_row 0 row) × (result ≡ change.Row at row))

-- the rows with this one in place of a run's own at a place; without the own one, where none is given; and with this
-- one inserted, where the run has none
abbrev pub rows_put : List CutRow → ℕ → Option CutRow → Option CutRow → List CutRow
rows_put rows at None None = rows
rows_put rows at None (Some row) = insert rows at row
rows_put rows at (Some own) None = remove rows at
rows_put rows at (Some own) (Some row) = slice_set rows at row
