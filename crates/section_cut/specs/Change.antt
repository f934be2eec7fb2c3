-- What an edit makes of a section's cut: whether it touches the section, and the stamps of the
-- cut's rows.
use Rattle.std.specs.Prelude.{◌≡◌, ◌≢◌, ◌⊎◌, ℕ, ◌<◌, ◌≤◌, List, length, slice_set, insert, remove, Option, Some, option_map, IfSome, All}
use Rattle.rail_model.specs.declared.items.Section.{Section}
use Rattle.rail_model.specs.declared.tables.Tables.{Tables}
use Rattle.plan_model.specs.declared.cut.CutRow.{CutRow}
use Rattle.plan_model.specs.declared.cut.Cut.{Cut}
use Rattle.plan_model.specs.Cut.{stamped_row, stamped, IsSoundCut, cut_of}
use Rattle.plan_model.specs.Legal.{row_named}
use Rattle.section_cut.specs.declared.cut_changes.CutChange.{CutChange}
use Rattle.section_cut.specs.declared.cut_changes.CutChange.TheVariants as change

-- a row of the cut after an edit is the one that stood there before it, stamp included; or none of
-- its name and value stood there, and its stamp is the edit's number
abbrev pub IsRestamped : ℕ → Option Cut → CutRow → Type 0
IsRestamped number old row =
    (row_named row.name old ≡ Some row)
    ⊎ ((row.stamp ≡ number) × (option_map (stamped_row 0) (row_named row.name old) ≢ Some (stamped_row 0 row)))

-- a section's cut after an edit: its value, which has no stamps; the stamps of its rows, by the cut
-- before the edit and the edit's number; and that it is sound
pub record IsCutAfter (value : Option Cut) (number : ℕ) (old cut : Option Cut) : Type 0 where
  pub same : value ≡ option_map (stamped 0) cut
  pub stamps : IfSome cut (λ c. All (IsRestamped number old) c.rows)
  pub sound : IfSome cut IsSoundCut

-- a cut has a row at this place
abbrev pub HasPlace : ℕ → Cut → Type 0
HasPlace place cut = place < length cut.rows

-- a cut with this row at a place, in place of the one that stands there
abbrev pub with_row : ℕ → CutRow → Cut → Cut
with_row place row cut = record cut { rows = slice_set cut.rows place row }

-- a cut has room for one row more here: before a row of it, or behind the last one
abbrev pub HasRoomAt : ℕ → Cut → Type 0
HasRoomAt place cut = place ≤ length cut.rows

-- a cut with this row more, at a place of its own
abbrev pub with_inserted : ℕ → CutRow → Cut → Cut
with_inserted place row cut = record cut { rows = insert cut.rows place row }

-- a cut without its row at a place
abbrev pub with_removed : ℕ → Cut → Cut
with_removed place cut = record cut { rows = remove cut.rows place }

-- what an edit makes of a section's cut: it touches the section exactly where the cut's values
-- before and after it differ, where that of a section that isn't there is none
abbrev pub IsChange : Option Cut → Option Cut → ℕ → Option Cut → CutChange → Type 0
IsChange before after number old change.Untouched = after ≡ before
IsChange before after number old (change.Touched cut) = (after ≢ before) × IsCutAfter after number old cut
IsChange before after number old (change.Row place row) =
    IfSome old (HasPlace place) × (after ≢ before) × IsCutAfter after number old (option_map (with_row place row) old)
IsChange before after number old (change.Inserted place row) =
    IfSome old (HasRoomAt place) × (after ≢ before) × IsCutAfter after number old (option_map (with_inserted place row) old)
IsChange before after number old (change.Removed place) =
    IfSome old (HasPlace place) × (after ≢ before) × IsCutAfter after number old (option_map (with_removed place) old)

-- two sections have the same window and the same blocks, so runs have the same rows in both
pub record HasSameRows (a b : Section) : Type 0 where
  pub from : a.from_s ≡ b.from_s
  pub to : a.to_s ≡ b.to_s
  pub blocks : a.blocks ≡ b.blocks

-- tables before and after an edit
pub record TwoTables : Type 0 where
  pub before : Tables
  pub after : Tables

-- a cut that is made by tables, with any stamp, has the value of the section's cut by these tables
abbrev pub MadeCutsHaveTheirValue : Type 0
MadeCutsHaveTheirValue =
    (tables : Tables) (section : List ℕ) (stamp : ℕ)
    → cut_of tables section ≡ option_map (stamped 0) (option_map (stamped stamp) (cut_of tables section))
