use Rattle.std.proofs.Common.{◌≡◌, ℕ, ◌<◌, false}
use Rattle.plan_model.specs.Disorder.{are_opposite}
use Rattle.train_order.proofs.pairs.first_opposite.Given as goal

-- none before j is opposite to member i
abbrev pub invariant-loop-j : goal.invariant-loop-j
invariant-loop-j l = (k : ℕ) → k < l.j → are_opposite l.cut l.i k ≡ false
