use Rattle.std.proofs.Common.{◌≡◌, ℕ, ◌<◌, [], true}
use Rattle.train_order.specs.Sets.{holds}
use Rattle.train_order.specs.Taking.{IsTaking}
use Rattle.train_order.proofs.taking.take_up_all.Given as goal

-- the members so far were tried
abbrev pub invariant-loop-member : goal.invariant-loop-member
invariant-loop-member l = record {
  so_far : IsTaking l.sets l.taken l.up.words l.tried.words [];
  tried : (k : ℕ) → k < l.member → holds l.tried.words k ≡ true;
}
