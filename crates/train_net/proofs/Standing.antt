-- Where a member stands in an order, and the edges to it.
use Rattle.std.proofs.Common.{◌≡◌, ℕ, ◌<◌, List, length, zero-add, sym, ◌∙◌, subst, arith}
use Rattle.std.specs.Prelude.{All, slice_index}
use Rattle.std.specs.List.Sorted.{IsPermutation}
use Rattle.std.proofs.lemmas.List.{get_or_default}
use Rattle.std.proofs.lemmas.List.FromFn.{length-range_with_len, get_or-range_with_len}
use Rattle.std.proofs.lemmas.List.Sorted.{Contains-permutation}
use Rattle.plan_model.specs.declared.cut.Cut.{Cut}
use Rattle.plan_model.specs.Members.{member_count, members}
use Rattle.train_order.specs.Ordering.{StandsBefore}
use Rattle.train_order.proofs.Apart.{range_differs, one_place}
use Rattle.train_order.proofs.Among.{StandsAt}
use Rattle.train_net.specs.declared.edge.Edge.{Edge}
use Rattle.train_net.specs.Net.{IsEdge, edges_to, IsNet}

module _ (cut : Cut) (order : List ℕ) (once : IsPermutation (members cut) order) where
  pub stands : (j : ℕ) → j < member_count cut → StandsAt order j
  stands j l =
      let n = member_count cut in
      let c = Contains-permutation (members cut) order j once
      (j, omega (arith, l, length-range_with_len 0 n), get_or-range_with_len 0 n j j l ∙ zero-add j) in
      record { at = c.0; within = c.1; is = sym (get_or_default order c.0 j 0 c.1) ∙ c.2 }

  -- it stands at one place
  pub one_standing : (k l : ℕ) → k < length order → l < length order → slice_index order k ≡ slice_index order l → k ≡ l
  one_standing k l lk ll e = one_place (members cut) order (range_differs (member_count cut)) once k l lk ll e

  -- the places of two members, one of which stands before the other
  pub before_by : (i j k l : ℕ) → StandsBefore order i j → k < length order → l < length order
      → slice_index order k ≡ i → slice_index order l ≡ j → k < l
  before_by i j k l stand lk ll first second =
      let a = one_standing k stand.at lk (omega (arith, stand.before, stand.within)) (first ∙ sym stand.one) in
      let b = one_standing l stand.next ll stand.within (second ∙ sym stand.other) in
      omega (arith, a, b, stand.before)

-- each edge of a net to a member is one
pub edge_to : (cut : Cut) (order : List ℕ) (edges : List (List Edge)) → IsNet cut order edges → (j : ℕ) → j < member_count cut
    → All (IsEdge cut j) (edges_to edges j)
edge_to cut order edges net j lj =
    let s = stands cut order net.in_order.each_once j lj in
    subst (λ k. All (IsEdge cut k) (edges_to edges k)) s.is (net.each s.at s.within).real
