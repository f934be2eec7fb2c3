-- The rows of a section's members before connections are added, and which row is a run's.
use Rattle.std.specs.Prelude.{◌≡◌, ℕ, pos, Bool, ◌&&◌, nat_lt, int_lt, int_le, if◌then◌else◌, List, length, map, filter, take, Option, None, Some}
use Rattle.std.specs.List.{range_with_len}
use Rattle.rail_model.specs.declared.items.Run.{Run}
use Rattle.rail_model.specs.declared.items.Section.{Section}
use Rattle.rail_model.specs.declared.tables.Tables.{Tables}
use Rattle.rail_model.specs.declared.stair.Use.{Use}
use Rattle.rail_model.specs.Tables.{run_at}
use Rattle.plan_model.specs.declared.cut.CutRow.{CutRow}
use Rattle.plan_model.specs.Cut.{least, section_uses, entry_of, is_member}
use Rattle.section_cut.specs.declared.cuts.SectionRows.{SectionRows}
use Rattle.section_cut.specs.declared.members.Member.{Member}
use Rattle.section_cut.specs.declared.members.MemberRows.{MemberRows}
use Rattle.section_cut.specs.Positions.{IsPositions}

-- a run with these uses of the section's blocks is a member
abbrev pub enters : Section → List Use → Bool
enters section uses =
    nat_lt 0 (length uses)
    && int_le (pos section.from_s) (least (map (λ u. u.start) uses))
    && int_lt (least (map (λ u. u.start) uses)) (pos section.to_s)

-- its row
abbrev pub row_with : List ℕ → ℕ → List Use → CutRow
row_with name stamp uses = record { name = name; stamp = stamp; entry = least (map (λ u. u.start) uses); uses = uses }

-- its row where it is a member
abbrev pub member_row : Section → List ℕ → ℕ → List Use → Option CutRow
member_row section name stamp uses = if enters section uses then Some (row_with name stamp uses) else None

-- a row's place among the members' rows, which it follows, with its entry
abbrev pub member_of : ℕ → CutRow → Member
member_of row r = record { row = row; entry = r.entry }

module _ (tables : Tables) (section : Section) where
  -- the members, in the order of their names
  abbrev pub members_of : List Run
  members_of = filter (is_member tables section) tables.runs

  -- the row of a run without its uses of connections, and the rows of all members
  abbrev pub row_on_blocks : ℕ → Run → CutRow
  row_on_blocks stamp run = record {
    name = run.name;
    stamp = stamp;
    entry = entry_of tables section run;
    uses = section_uses tables section run;
  }

  abbrev pub rows_on_blocks : ℕ → List CutRow
  rows_on_blocks stamp = map (row_on_blocks stamp) members_of

  -- which member the run with a number is, if it is one; and this for all runs, in the order of
  -- their names
  abbrev pub member_at : ℕ → Option Member
  member_at n =
      if is_member tables section (run_at tables n)
      then Some (record {
        row = length (filter (is_member tables section) (take n tables.runs));
        entry = entry_of tables section (run_at tables n);
      })
      else None

  abbrev pub members_by_run : List (Option Member)
  members_by_run = map member_at (range_with_len 0 (length tables.runs))

  -- these are the rows of the members among the first so many runs, and which row is a run's
  pub record AreMembersTo (stamp n : ℕ) (all : MemberRows) : Type 0 where
    pub rows : all.rows ≡ map (row_on_blocks stamp) (filter (is_member tables section) (take n tables.runs))
    pub of_run : all.of_run.items ≡ map member_at (range_with_len 0 n)

  -- these are the rows of the members among the first so many runs, which row is a run's, and the
  -- positions of the blocks in the section
  pub record AreSectionRowsTo (stamp n : ℕ) (all : SectionRows) : Type 0 where
    pub positions : IsPositions tables section all.positions.items
    pub members : AreMembersTo stamp n all.members
