use Rattle.std.proofs.Common.{ℕ, ◌<◌, ◌≤◌, get_or}
use Rattle.cycle_time.specs.Cycle.{no_step}
use Rattle.cycle_time.proofs.ring.begins_with_least.Given as goal

abbrev pub invariant-loop-k : goal.invariant-loop-k
invariant-loop-k l = (m : ℕ) → m < l.k → l.first ≤ (get_or l.ring m no_step).to
