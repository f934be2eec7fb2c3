-- Members that are kept in one order have it as their order: none are opposite, and none remain.
use Rattle.std.proofs.Common.{◌≡◌, ℕ, ◌<◌, true, false, List, length, get_or, inl, inr, sym, ap, subst, ◌∙◌, arith}
use Rattle.std.specs.Prelude.{Ok}
use Rattle.std.specs.List.Sorted.{IsPermutation}
use Rattle.std.proofs.lemmas.Bool.{cases_lt, cases_eq, and_parts, both_ways}
use Rattle.std.proofs.lemmas.List.{get_or_default}
use Rattle.std.proofs.lemmas.List.FromFn.{length-range_with_len, get_or-range_with_len}
use Rattle.std.proofs.lemmas.List.Sorted.{Contains-permutation, length_permutation}
use Rattle.plan_model.specs.declared.cut.Cut.{Cut}
use Rattle.plan_model.specs.Members.{member, member_count, members, use_at, places, precedes, precedes_somewhere}
use Rattle.plan_model.specs.Cut.{IsSoundCut}
use Rattle.train_order.specs.declared.found.Order.{Order}
use Rattle.train_order.specs.Ordering.{IsOrder, IsOrdering}
use Rattle.train_order.specs.EntryOrder.{AreInOrder}
use Rattle.train_order.proofs.Among.{StandsAt}
use Rattle.train_order.proofs.Before.{earlier_is, never_itself}
use Rattle.train_order.proofs.Ordered.{ordering}
use Rattle.train_order.proofs.Find.{find_some}

module _ (cut : Cut) (positions : List ℕ) (once : IsPermutation (members cut) positions) where
  abbrev n : ℕ
  n = member_count cut

  long : length positions ≡ n
  long = length_permutation (members cut) positions once ∙ length-range_with_len 0 n

  pub stands : (i : ℕ) → i < n → StandsAt positions i
  stands i l =
      let c = Contains-permutation (members cut) positions i once
      (i, omega (arith, l, length-range_with_len 0 n), get_or-range_with_len 0 n i i l ∙ omega arith) in
      record { at = c.0; within = c.1; is = get_or_default positions c.0 0 i c.1 ∙ c.2 }

  pub not_itself : IsSoundCut cut → (i place : ℕ) → i < n → precedes (member cut i) (member cut i) place ≡ true → ⊥
  not_itself sound i place l h =
      let its = use_at (member cut i) place in
      both_ways _ (never_itself (its.start, i)) (sym (earlier_is cut sound its.start its.start i i l l) ∙ (and_parts _ _ h).1)

  module _ (sound : IsSoundCut cut) (kept : AreInOrder cut positions) where
    -- a member stands before those that it precedes
    before : (i j : ℕ) (li : i < n) (lj : j < n) → precedes_somewhere cut i j ≡ true → (stands i li).at < (stands j lj).at
    before i j li lj h =
        let some = find_some (precedes (member cut i) (member cut j)) (places cut) h in
        let place = some.0 in
        let a = stands i li in
        let b = stands j lj in
        elim (cases_lt a.at b.at) [
          | inl l ↦ l
          | inr ge ↦ absurd (elim (cases_eq a.at b.at) [
            | inl e ↦
                let same : j ≡ i = sym b.is ∙ ap (λ k. get_or positions k 0) (sym e) ∙ a.is in
                not_itself sound i place li (subst (λ m. precedes (member cut i) (member cut m) place ≡ true) same some.3)
            | inr ne ↦
                let never : precedes (member cut i) (member cut j) place ≡ false =
                subst (λ m. precedes (member cut m) (member cut j) place ≡ false) a.is
                (subst (λ m. precedes (member cut (get_or positions a.at 0)) (member cut m) place ≡ false) b.is
                (kept b.at a.at place (omega arith) a.within)) in
                both_ways _ never some.3
          ])
        ]

    is_order : IsOrder cut positions
    is_order = record {
      each_once = once;
      before = λ i j li lj h.
          let a = stands i li in
          let b = stands j lj in
          record { at = a.at; next = b.at; before = before i j li lj h; within = b.within; one = a.is; other = b.is };
    }

    pub is_ordering : (order : Order) → order.positions ≡ positions → IsOrdering cut (Ok order)
    is_ordering = ordering cut positions is_order
