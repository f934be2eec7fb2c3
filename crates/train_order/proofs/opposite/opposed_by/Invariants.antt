use Rattle.std.proofs.Common.{◌≡◌, ℕ, ◌-◌, ◌<◌, ◌≤◌, false, true}
use Rattle.plan_model.specs.declared.limits.TheConstants.{MEMBERS}
use Rattle.train_order.specs.Sets.{relates}
use Rattle.train_order.specs.Opposite.{oppose}
use Rattle.train_order.proofs.opposite.opposed_by.Given as goal

-- none before j is opposed, and j precedes i
abbrev pub invariant-loop-j : goal.invariant-loop-j
invariant-loop-j l = record {
  from_on : l.from ≤ l.j;
  none : (k : ℕ) → l.from ≤ k → k < l.j → oppose l.sets l.i k ≡ false;
  there : l.j < MEMBERS → relates l.sets l.j l.i ≡ true;
}

abbrev pub decreases-loop-j : goal.decreases-loop-j
decreases-loop-j l = l.until - l.j
