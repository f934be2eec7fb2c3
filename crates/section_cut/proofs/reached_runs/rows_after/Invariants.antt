use Rattle.std.proofs.Common.{◌≡◌, ℕ, ◌<◌, length, map, take}
use Rattle.std.specs.Prelude.{All, filter}
use Rattle.rail_model.specs.Tables.{run_at}
use Rattle.plan_model.specs.Cut.{stamped_row, is_member, binding_connections, row_of}
use Rattle.section_cut.specs.RowsAfter.{IsKept}
use Rattle.section_cut.specs.Stamps.{AreBefore, IsStampedBy}
use Rattle.section_cut.proofs.reached_runs.rows_after.Given as goal

-- the runs so far are kept; their rows, where the same connections bind, and their stamps; and the old rows below the
-- place are theirs
abbrev pub invariant-loop-n : goal.invariant-loop-n
invariant-loop-n l =
    let earlier = l.both.before.now in
    let later = l.both.after.now in
    let section = l.table.section.now in
    record {
      kept : (k : ℕ) → k < l.n → IsKept earlier later section k;
      value : binding_connections later section ≡ binding_connections earlier section
          → map (stamped_row 0) l.rows ≡ map (row_of later section) (filter (is_member later section) (take l.n earlier.runs));
      stamps : All (IsStampedBy l.number l.old) l.rows;
      before : l.n < length later.runs → AreBefore l.old (run_at later l.n).name l.at;
    }
