use Rattle.std.proofs.Common.{◌≡◌, ℕ, ◌<◌, ◌≤◌, length, drop}
use Rattle.std.specs.List.{list_any}
use Rattle.plan_model.specs.Members.{member, member_count, places, precedes}
use Rattle.train_order.specs.Sets.{relates}
use Rattle.train_order.specs.Visits.{listed_at}
use Rattle.train_order.proofs.precedence.put_listed.Given as goal

-- the sets tell of the precedence at the places whose lists are taken out, the last ones
abbrev pub invariant-loop-list : goal.invariant-loop-list
invariant-loop-list l = record {
  within : length l.lists.items ≤ length l.fn.lists.items;
  lists : (place : ℕ) → place < length l.lists.items → listed_at l.lists.items place ≡ listed_at l.fn.lists.items place;
  count : length l.sets ≡ member_count l.cut;
  each : (i j : ℕ) → i < member_count l.cut → j < member_count l.cut
      → relates l.sets i j
      ≡ list_any (precedes (member l.cut i) (member l.cut j)) (drop (length l.lists.items) (places l.cut));
}

abbrev pub decreases-loop-list : goal.decreases-loop-list
decreases-loop-list l = length l.lists.items
