use Rattle.std.proofs.Common.{◌≡◌, ◌<◌, ℕ, length}
use Rattle.train_net.specs.Mending.{IsMarkedAt}
use Rattle.train_net.proofs.marking.mark_before_fresh.Given as goal

-- the nearest before the first positions are marked
abbrev pub invariant-loop-at : goal.invariant-loop-at
invariant-loop-at l = record {
  count : length l.marks ≡ length l.initial.marks;
  marked : (at : ℕ) → at < l.at → IsMarkedAt l.cut l.origin l.order l.marks at;
}
