use Rattle.std.proofs.Common.{◌≡◌, ℕ, ◌<◌, false, length}
use Rattle.train_order.specs.Sets.{relates}
use Rattle.train_order.proofs.precedence.empty_sets.Given as goal

abbrev pub invariant-loop : goal.invariant-loop
invariant-loop l = record {
  count : length l.sets.items ≡ l.counter;
  none : (i j : ℕ) → j < l.counter → relates l.sets.items i j ≡ false;
}
