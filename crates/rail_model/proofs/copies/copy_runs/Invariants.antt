use Rattle.std.proofs.Common.{◌≡◌, take}
use Rattle.rail_model.proofs.copies.copy_runs.Given as goal

abbrev pub invariant-loop-run : goal.invariant-loop-run
invariant-loop-run l = l.others ≡ take l.run-index l.runs
