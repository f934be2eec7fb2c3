use Rattle.std.proofs.Common.{◌≡◌, ℕ, take}
use Rattle.train_order.specs.Sets.{holds}
use Rattle.train_order.specs.Taking.{is_among}
use Rattle.train_order.proofs.ring.set_of.Given as goal

abbrev pub invariant-loop-member : goal.invariant-loop-member
invariant-loop-member l = (k : ℕ) → holds l.set.words k ≡ is_among (take l.member-index l.members) k
