-- A member of an order, and those that stand before it.
use Rattle.std.proofs.Common.{◌≡◌, ℕ, ◌<◌, true, ◌==◌, List, length, take, get_or, refl, sym, ◌∙◌, arith}
use Rattle.std.specs.Prelude.{IsTrue}
use Rattle.std.proofs.lemmas.Bool.{false_from_ne_true}
use Rattle.std.proofs.lemmas.List.FromFn.{length-range_with_len}
use Rattle.std.proofs.lemmas.List.Sorted.{list_any-IsPermutation, length_permutation}
use Rattle.plan_model.specs.declared.cut.Cut.{Cut}
use Rattle.plan_model.specs.Members.{member, member_count, members, precedes}
use Rattle.plan_model.specs.Cut.{IsSoundCut}
use Rattle.plan_model.proofs.MemberTests.{has-range, in_range}
use Rattle.plan_model.proofs.Uses.{place_there}
use Rattle.train_order.specs.Taking.{is_among}
use Rattle.train_order.specs.Ordering.{IsOrder}
use Rattle.train_order.specs.Laws.{ComesNext, EachComesNext}
use Rattle.train_order.proofs.Among.{among_at, among_first, first_among}
use Rattle.train_order.proofs.Apart.{range_differs, one_place}
use Rattle.train_order.proofs.Users.{user_there, users, somewhere}

module _ (cut : Cut) (order : List ℕ) (is : IsOrder cut order) where
  pub is_there : (i : ℕ) → i < member_count cut → is_among order i ≡ true
  is_there i l =
      sym (list_any-IsPermutation (λ k. k == i) (members cut) order is.each_once)
      ∙ has-range (member_count cut) i l

  pub in_members : (i : ℕ) → is_among order i ≡ true → i < member_count cut
  in_members i h =
      let l = in_range 0 (member_count cut) i (list_any-IsPermutation (λ k. k == i)
      (members cut) order is.each_once ∙ h) in
      omega (arith, l)

  pub count : length order ≡ member_count cut
  count = length_permutation (members cut) order is.each_once ∙ length-range_with_len 0 (member_count cut)

  same_at : (at next : ℕ) → at < length order → next < length order → get_or order at 0 ≡ get_or order next 0 → at ≡ next
  same_at = one_place (members cut) order (range_differs (member_count cut)) is.each_once

  module _ (sound : IsSoundCut cut) (k : ℕ) (lk : k < length order) where
    abbrev next : ℕ
    next = get_or order k 0

    next_there : next < member_count cut
    next_there = in_members next (among_at order k next lk refl)

    goes_before : (i place : ℕ) → IsTrue (precedes (member cut i) (member cut next) place)
        → is_among (take k order) i ≡ true
    goes_before i place p =
        let used = users cut i next place p in
        let li = user_there cut i place used.0 in
        let s = is.before i next li next_there (somewhere cut i next place (place_there cut sound i place li used.0) p) in
        let e = same_at s.next k s.within lk s.other in
        among_first order k s.at i (omega (arith, lk)) (omega (arith, s.before, e)) s.one

    goes_not_before : (i place : ℕ) → is_among (take k order) i ≡ true
        → IsTrue (precedes (member cut next) (member cut i) place) → ⊥
    goes_not_before i place h p =
        let used = users cut next i place p in
        let li = user_there cut i place used.1 in
        let s = is.before next i next_there li (somewhere cut next i place (place_there cut sound i place li used.1) p) in
        let at = first_among order k i (omega (arith, lk)) h in
        let e = same_at s.at k (omega (arith, s.before, s.within)) lk s.one in
        let f = same_at at.0 s.next (omega (arith, at.1, lk)) s.within (at.2 ∙ sym s.other) in
        omega (arith, s.before, e, f, at.1)

    pub comes_next : ComesNext cut (take k order) next
    comes_next = record {
      there = next_there;
      not_yet = false_from_ne_true (is_among (take k order) next) (λ h.
          let at = first_among order k next (omega (arith, lk)) h in
          omega (arith, at.1, same_at at.0 k (omega (arith, at.1, lk)) lk at.2));
      before = goes_before;
      none_after = goes_not_before;
    }

pub each_comes_next : EachComesNext
each_comes_next cut order sound is k l = comes_next cut order is sound k l
