use Rattle.std.proofs.Common.{◌≡◌, ℕ, ◌-◌, length}
use Rattle.train_order.specs.Sets.{holds}
use Rattle.train_order.specs.Taking.{is_among, left_in}
use Rattle.train_order.specs.Walk.{IsWalk}
use Rattle.train_order.proofs.ring.walk_back.Given as goal

-- the walk so far, whose members are in the set
abbrev pub invariant-loop-walked : goal.invariant-loop-walked
invariant-loop-walked l = record {
  is_walk : IsWalk l.sets (left_in (length l.sets) l.gone.words) l.walk l.next;
  walked : (k : ℕ) → holds l.walked.words k ≡ is_among l.walk k;
}

abbrev pub decreases-loop-walked : goal.decreases-loop-walked
decreases-loop-walked l = length l.sets - length l.walk
