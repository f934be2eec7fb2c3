use Rattle.std.proofs.Common.{ℕ, ◌<◌, length, get_or, None}
use Rattle.std.specs.Prelude.{find}
use Rattle.rail_model.specs.Name.{is_same}
use Rattle.rail_model.specs.Tables.{run_at}
use Rattle.section_cut.specs.ReachedRuns.{StaysRow}
use Rattle.section_cut.specs.Stamps.{AreBefore}
use Rattle.section_cut.proofs.reached_runs.rows_stay.Given as goal

-- the rows of the runs so far stay, and the rows below the place are theirs
abbrev pub invariant-loop-n : goal.invariant-loop-n
invariant-loop-n l = record {
  stay : (k : ℕ) → k < l.n
      → StaysRow l.table.section.now l.table.positions.now (get_or l.reached k None) (find (λ r. is_same r.name (run_at l.both.after.now k).name) l.old);
  before : l.n < length l.both.after.now.runs → AreBefore l.old (run_at l.both.after.now l.n).name l.at;
}
