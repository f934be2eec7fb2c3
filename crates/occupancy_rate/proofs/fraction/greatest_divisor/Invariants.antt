use Rattle.std.proofs.Common.{ℕ}
use Rattle.std.specs.Int.{IsGcd}
use Rattle.occupancy_rate.proofs.fraction.greatest_divisor.Given as goal

-- the two numbers have the greatest common divisor of those that are given
abbrev pub invariant-loop-y : goal.invariant-loop-y
invariant-loop-y l = (g : ℕ) → IsGcd l.x l.y g → IsGcd l.fn.a l.fn.b g

abbrev pub decreases-loop-y : goal.decreases-loop-y
decreases-loop-y l = l.y
