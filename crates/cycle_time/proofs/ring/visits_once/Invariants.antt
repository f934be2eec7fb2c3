use Rattle.std.proofs.Common.{ℕ, ◌<◌}
use Rattle.cycle_time.specs.Checking.{Differs}
use Rattle.cycle_time.proofs.ring.visits_once.Given as goal

abbrev pub invariant-loop-k : goal.invariant-loop-k
invariant-loop-k l = (m : ℕ) → m < l.k → Differs l.ring m
