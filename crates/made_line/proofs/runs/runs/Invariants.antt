use Rattle.std.proofs.Common.{◌≡◌, ◌*◌}
use Rattle.made_line.specs.Base.{after_draws, first_runs}
use Rattle.made_line.proofs.runs.runs.Given as goal

abbrev pub invariant-loop-i : goal.invariant-loop-i
invariant-loop-i l = record {
  runs : l.runs ≡ first_runs l.fn.draws.x l.i;
  drawn : l.draws.x ≡ after_draws l.fn.draws.x (65 * l.i);
}
