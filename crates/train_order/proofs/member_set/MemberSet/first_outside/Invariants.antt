use Rattle.std.proofs.Common.{◌≡◌, ℕ, ◌*◌, ◌<◌, true}
use Rattle.train_order.specs.Sets.{holds}
use Rattle.train_order.proofs.member_set.MemberSet.first_outside.Given as goal

-- the members of the words so far are in the other set, too
abbrev pub invariant-loop-place : goal.invariant-loop-place
invariant-loop-place l = (k : ℕ) → k < 64 * l.place → holds l.self.words k ≡ true → holds l.other.words k ≡ true
