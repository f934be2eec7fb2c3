use Rattle.std.proofs.Common.{ℕ, ◌<◌}
use Rattle.std.specs.Prelude.{◌≤ℤ◌}
use Rattle.plan_model.specs.Schedule.{entry_at}
use Rattle.cycle_time.proofs.keeping.none_before.Given as goal

abbrev pub invariant-loop-k : goal.invariant-loop-k
invariant-loop-k l = (m : ℕ) → m < l.k → l.start ≤ℤ entry_at l.entries m
