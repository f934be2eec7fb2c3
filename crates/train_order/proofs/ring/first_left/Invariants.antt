use Rattle.std.proofs.Common.{◌≡◌, ℕ, ◌<◌, true}
use Rattle.train_order.specs.Sets.{holds}
use Rattle.train_order.proofs.ring.first_left.Given as goal

abbrev pub invariant-loop-j : goal.invariant-loop-j
invariant-loop-j l = (k : ℕ) → k < l.j → holds l.gone.words k ≡ true
