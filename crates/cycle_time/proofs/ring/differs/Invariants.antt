use Rattle.std.proofs.Common.{ℕ, ◌<◌, get_or}
use Rattle.std.specs.Prelude.{◌≢◌}
use Rattle.cycle_time.specs.Cycle.{no_step}
use Rattle.cycle_time.proofs.ring.differs.Given as goal

abbrev pub invariant-loop-j : goal.invariant-loop-j
invariant-loop-j l = (m : ℕ) → m < l.j → (get_or l.ring m no_step).to ≢ (get_or l.ring l.k no_step).to
