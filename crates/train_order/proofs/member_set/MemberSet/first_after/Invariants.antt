use Rattle.std.proofs.Common.{◌≡◌, ℕ, ◌+◌, ◌*◌, ◌<◌, ◌≤◌, false}
use Rattle.train_order.specs.Sets.{holds}
use Rattle.train_order.proofs.member_set.MemberSet.first_after.Given as goal

-- no member is in the words after the place that came so far
abbrev pub invariant-loop-later : goal.invariant-loop-later
invariant-loop-later l = (k : ℕ) → 64 * l.place + 64 ≤ k → k < 64 * l.later → holds l.self.words k ≡ false
