use Rattle.std.proofs.Common.{◌≡◌, ◌<◌, length, map, take}
use Rattle.std.specs.Prelude.{filter}
use Rattle.std.specs.List.{range_with_len}
use Rattle.rail_model.specs.Tables.{run_at}
use Rattle.plan_model.specs.Cut.{is_member}
use Rattle.section_cut.specs.Members.{row_on_blocks, member_at}
use Rattle.section_cut.specs.Stamps.{AreBefore}
use Rattle.section_cut.proofs.bound_anew.members_by_rows.Given as goal

-- the rows and the members so far, and the rows below the place are theirs
abbrev pub invariant-loop-n : goal.invariant-loop-n
invariant-loop-n l = record {
  rows : l.all.rows ≡ map (row_on_blocks l.tables l.section l.stamp) (filter (is_member l.tables l.section) (take l.n l.tables.runs));
  of_run : l.all.of_run.items ≡ map (member_at l.tables l.section) (range_with_len 0 l.n);
  before : l.n < length l.tables.runs → AreBefore l.own (run_at l.tables l.n).name l.at;
}
