-- The rows of a section's cut before and after an edit that changes the paths of some runs.
use Rattle.std.specs.Prelude.{◌≡◌, ◌⊎◌, ℕ, ◌<◌, false, List, length, map, filter, find, slice_index_or, All, Option, Some, None, option_map}
use Rattle.rail_model.specs.declared.items.Section.{Section}
use Rattle.rail_model.specs.declared.stair.Stair.{Stair}
use Rattle.rail_model.specs.declared.tables.Tables.{Tables}
use Rattle.rail_model.specs.Name.{NamesRise, is_same}
use Rattle.rail_model.specs.Rules.{IsSound}
use Rattle.rail_model.specs.Tables.{run_at}
use Rattle.plan_model.specs.declared.cut.CutRow.{CutRow}
use Rattle.plan_model.specs.Cut.{stamped_row, AreBlocksFirst, section_uses, is_member, row_of}
use Rattle.section_cut.specs.Connected.{is_joined, entry_in, block_part}
use Rattle.section_cut.specs.Members.{member_row}
use Rattle.section_cut.specs.Positions.{IsPositions, uses_in}
use Rattle.section_cut.specs.ReachedRuns.{AreReachedRuns, StaysRow}
use Rattle.section_cut.specs.Stamps.{IsStampedBy}
use Rattle.section_cut.specs.Wanted.{IsTouched}

-- a row with this stamp and its uses of blocks alone
abbrev pub on_blocks : Section → ℕ → CutRow → CutRow
on_blocks section stamp row = record row { stamp = stamp; uses = block_part section row.uses }

-- a run's row with this stamp and its uses of blocks alone: by its stair, if that is reached, and otherwise by the row
-- that it had, if it had one
abbrev pub member_after : Section → List ℕ → Option Stair → ℕ → Option CutRow → Option CutRow
member_after section positions (Some stair) stamp own = member_row section stair.run stamp (uses_in positions (length section.blocks) stair.uses)
member_after section positions None stamp own = option_map (on_blocks section stamp) own

-- among these rows each run of the tables has one with its entry and its uses of blocks, if it is a member
abbrev pub TellsMembers : Tables → Section → List CutRow → Type 0
TellsMembers tables section rows =
    (stamp n : ℕ) → n < length tables.runs
    → option_map (on_blocks section stamp) (find (λ r. is_same r.name (run_at tables n).name) rows)
    ≡ member_row section (run_at tables n).name stamp (section_uses tables section (run_at tables n))

-- these rows do, and their names rise, and their uses of blocks stand first
pub record AreOfMembers (tables : Tables) (section : Section) (rows : List CutRow) : Type 0 where
  pub rise : NamesRise (λ r. r.name) rows
  pub first : All (λ r. AreBlocksFirst (length section.blocks) r.uses) rows
  pub each : TellsMembers tables section rows

-- both tables with the stairs of the runs that the edit reaches, and a section that it can touch, with its rows by the
-- earlier tables and the positions of its blocks by the later ones
pub record AreBeside (earlier later : Tables) (stairs : List (Option Stair)) (section : Section) (positions : List ℕ) (old : List CutRow) : Type 0 where
  pub earlier_sound : IsSound earlier
  pub later_sound : IsSound later
  pub block : Option ℕ
  pub reached : AreReachedRuns earlier later block stairs
  pub touched : IsTouched later block section
  pub table : IsPositions later section positions
  pub rows : map (stamped_row 0) old ≡ map (row_of earlier section) (filter (is_member earlier section) earlier.runs)
  pub rise : NamesRise (λ r. r.name) old

-- the row of the run of a number, if it has one
abbrev pub IsOwnOf : Tables → ℕ → List CutRow → Option CutRow → Type 0
IsOwnOf tables run rows own = own ≡ find (λ r. is_same r.name (run_at tables run).name) rows

-- all rows have the values after an edit that they had before it
abbrev pub AllStay : Tables → List (Option Stair) → Section → List ℕ → List CutRow → Type 0
AllStay later stairs section positions old =
    (n : ℕ) → n < length later.runs
    → StaysRow section positions (slice_index_or stairs n None) (find (λ r. is_same r.name (run_at later n).name) old)

-- the run of a number has no connection, or it enters a section as before, if it is a member
abbrev pub IsKept : Tables → Tables → Section → ℕ → Type 0
IsKept earlier later section n =
    (is_joined earlier (run_at earlier n) ≡ false) ⊎ (entry_in later section (run_at earlier n) ≡ entry_in earlier section (run_at earlier n))

-- where all runs do, the rows after the edit of a number: their values and their stamps
pub record AreRowsAfter (earlier later : Tables) (section : Section) (number : ℕ) (old rows : List CutRow) : Type 0 where
  pub kept : (n : ℕ) → n < length earlier.runs → IsKept earlier later section n
  pub value : map (stamped_row 0) rows ≡ map (row_of later section) (filter (is_member later section) earlier.runs)
  pub stamps : All (IsStampedBy number old) rows
