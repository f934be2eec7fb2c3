use Rattle.std.proofs.Common.{◌≡◌, ℕ, length}
use Rattle.std.specs.Prelude.{find}
use Rattle.plan_repair.specs.Kept.{has}
use Rattle.plan_repair.specs.Left.{IsLeft}
use Rattle.plan_repair.proofs.left.pass_over.Given as goal

abbrev pub invariant-loop-left : goal.invariant-loop-left
invariant-loop-left l = record {
  left : IsLeft l.name l.initial.left.items l.left.items;
  same : (stamp : ℕ) → find (has l.name stamp) l.left.items ≡ find (has l.name stamp) l.initial.left.items;
}

abbrev pub decreases-loop-left : goal.decreases-loop-left
decreases-loop-left l = length l.left.items
