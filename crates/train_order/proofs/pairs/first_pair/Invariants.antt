use Rattle.std.proofs.Common.{◌-◌}
use Rattle.train_order.proofs.Least.{IsLeast}
use Rattle.train_order.proofs.pairs.first_pair.Given as goal

abbrev pub invariant-loop-i : goal.invariant-loop-i
invariant-loop-i l = IsLeast l.cut l.apart.words l.i l.least

abbrev pub decreases-loop-i : goal.decreases-loop-i
decreases-loop-i l = l.count - l.i
