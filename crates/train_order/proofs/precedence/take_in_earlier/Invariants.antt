use Rattle.std.proofs.Common.{◌≡◌, ℕ, ◌==◌, ◌||◌, length, take}
use Rattle.std.specs.List.{list_any}
use Rattle.train_order.specs.Sets.{holds, relates}
use Rattle.train_order.specs.Visits.{comes_first}
use Rattle.train_order.proofs.precedence.take_in_earlier.Given as goal

-- the members of the visits so far are in the set, and each took it in before it grew
abbrev pub invariant-loop-visit : goal.invariant-loop-visit
invariant-loop-visit l = record {
  count : length l.sets ≡ length l.fn.sets;
  earlier : (k : ℕ) → holds l.earlier.words k ≡ list_any (λ v. v.member == k) (take l.visit-index l.visits);
  sets : (i j : ℕ) → relates l.sets i j ≡ (relates l.fn.sets i j || comes_first (take l.visit-index l.visits) i j);
}
