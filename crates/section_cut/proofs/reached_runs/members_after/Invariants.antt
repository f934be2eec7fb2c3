use Rattle.std.proofs.Common.{◌≡◌, ◌<◌, length, map, take}
use Rattle.std.specs.Prelude.{filter}
use Rattle.std.specs.List.{range_with_len}
use Rattle.rail_model.specs.Tables.{run_at}
use Rattle.plan_model.specs.Cut.{is_member}
use Rattle.section_cut.specs.Members.{row_on_blocks, member_at}
use Rattle.section_cut.specs.Stamps.{AreBefore}
use Rattle.section_cut.proofs.reached_runs.members_after.Given as goal

-- the rows and the members so far, and the old rows below the place are theirs
abbrev pub invariant-loop-n : goal.invariant-loop-n
invariant-loop-n l =
    let later = l.both.after.now in
    let section = l.table.section.now in
    record {
      rows : l.all.rows ≡ map (row_on_blocks later section l.stamp) (filter (is_member later section) (take l.n later.runs));
      of_run : l.all.of_run.items ≡ map (member_at later section) (range_with_len 0 l.n);
      before : l.n < length later.runs → AreBefore l.old (run_at later l.n).name l.at;
    }
