use Rattle.std.proofs.Common.{◌≡◌, ℕ, ◌<◌, false}
use Rattle.plan_model.specs.Members.{member_count}
use Rattle.plan_model.specs.Disorder.{are_opposite}
use Rattle.train_order.proofs.pairs.pair_of_first.Given as goal

-- none of the members so far is opposite to another
abbrev pub invariant-loop-i : goal.invariant-loop-i
invariant-loop-i l = (x y : ℕ) → x < l.i → y < member_count l.cut → are_opposite l.cut x y ≡ false
