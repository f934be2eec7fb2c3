use Rattle.std.proofs.Common.{arith}
use Rattle.std.proofs.lemmas.Nat.Gcd.{IsGcd-from_zero, IsGcd-from_mod}
use Rattle.occupancy_rate.proofs.fraction.greatest_divisor.Goals as goal

pub loop-y-preserved : goal.loop-y-preserved
loop-y-preserved c = λ g h. c.loop-y.invariant g (IsGcd-from_mod c.loop-y.x c.loop-y.y g h)

pub returns : goal.returns
returns c = c.loop-y.invariant c.loop-y.x (IsGcd-from_zero c.loop-y.x c.loop-y.y (omega (arith, c.loop-y-test)))
