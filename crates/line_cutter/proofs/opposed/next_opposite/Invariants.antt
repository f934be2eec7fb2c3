use Rattle.std.proofs.Common.{◌≡◌, ℕ, ◌<◌, false}
use Rattle.plan_model.specs.Disorder.{are_opposite}
use Rattle.line_cutter.proofs.opposed.next_opposite.Given as goal

-- none so far is opposite
abbrev pub invariant-loop-j : goal.invariant-loop-j
invariant-loop-j l = (k : ℕ) → l.i < k → k < l.j → are_opposite l.cut l.i k ≡ false
