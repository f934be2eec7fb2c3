use Rattle.std.proofs.Common.{◌≡◌, ℕ, ◌+◌, ◌-◌, ◌*◌, true, length}
use Rattle.train_order.specs.Sets.{holds}
use Rattle.train_order.specs.Taking.{IsTaking}
use Rattle.train_order.proofs.taking.take_up.Given as goal

-- the work so far, and the member was tried
abbrev pub invariant-loop-path : goal.invariant-loop-path
invariant-loop-path l = record {
  so_far : IsTaking l.sets l.taken l.up.words l.tried.words l.path;
  more : (k : ℕ) → holds l.fn.tried.words k ≡ true → holds l.tried.words k ≡ true;
  tried : holds l.tried.words l.member ≡ true;
}

abbrev pub decreases-loop-path : goal.decreases-loop-path
decreases-loop-path l = 2 * (length l.sets - length l.taken) + (length l.sets - length l.path)
