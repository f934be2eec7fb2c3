-- Where members have an order none of them are opposite, and none remain.
use Rattle.std.proofs.Common.{◌≡◌, ℕ, zero, suc, ◌+◌, ◌<◌, true, ◌==◌, List, [], ◌∷◌, length, get_or, refl, sym, ap, subst, ◌∙◌, arith}
use Rattle.std.specs.Prelude.{Ok}
use Rattle.std.specs.Option.{option_map}
use Rattle.std.proofs.lemmas.Bool.{or_left, eq-eqb}
use Rattle.plan_model.specs.declared.cut.Cut.{Cut}
use Rattle.plan_model.specs.Members.{member_count, members, precedes_somewhere}
use Rattle.plan_model.specs.Disorder.{opposite_of, remaining, ArePrecededAmong, HaveOrder}
use Rattle.plan_model.proofs.Ordered.{order_is_none_remains}
use Rattle.train_order.specs.declared.found.Order.{Order}
use Rattle.train_order.specs.Taking.{is_among}
use Rattle.train_order.specs.Ordering.{IsOrder, IsOrdering}
use Rattle.train_order.proofs.Apart.{range_differs, one_place}
use Rattle.train_order.proofs.Opposed.{none_opposite}

module _ (cut : Cut) (positions : List ℕ) (is : IsOrder cut positions) where
  abbrev n : ℕ
  n = member_count cut

  same_at : (k l : ℕ) → k < length positions → l < length positions → get_or positions k 0 ≡ get_or positions l 0 → k ≡ l
  same_at = one_place (members cut) positions (range_differs n) is.each_once

  pub not_both : (i j : ℕ) → i < n → j < n → precedes_somewhere cut i j ≡ true → precedes_somewhere cut j i ≡ true → ⊥
  not_both i j li lj p q =
      let a = is.before i j li lj p in
      let b = is.before j i lj li q in
      let one = same_at a.at b.next (omega (arith, a.before, a.within)) b.within (a.one ∙ sym b.other) in
      let other = same_at a.next b.at a.within (omega (arith, b.before, b.within)) (a.other ∙ sym b.one) in
      omega (arith, a.before, b.before, one, other)

  -- of members each of which is preceded by one of them, none stands at a position
  module _ (some : List ℕ) (are : ArePrecededAmong cut some) where
    never : (m at j : ℕ) → at < m → at < length positions → get_or positions at 0 ≡ j → is_among some j ≡ true → ⊥
    never zero at j l la e h = omega (arith, l)
    never (suc m) at j l la e h =
        let by = are j h in
        let s = is.before by.member j (are by.member by.among).there by.there by.precedes in
        let same = same_at s.next at s.within la (s.other ∙ sym e) in
        never m s.at by.member (omega (arith, s.before, same, l)) (omega (arith, s.before, s.within)) s.one by.among

    none : (j : ℕ) → is_among some j ≡ true → ⊥
    none j h =
        let by = are j h in
        let s = is.before by.member j (are by.member by.among).there by.there by.precedes in
        never (s.next + 1) s.next j (omega arith) s.within s.other h

  have_order : HaveOrder cut
  have_order [] are = refl
  have_order (k ∷ some) are = absurd (none (k ∷ some) are k (or_left (k == k) (is_among some k) (eq-eqb k k refl)))

  pub none_remain : remaining cut ≡ []
  none_remain = (order_is_none_remains cut).0 have_order

  pub ordering : (order : Order) → order.positions ≡ positions → IsOrdering cut (Ok order)
  ordering order e =
      (ap (option_map (opposite_of cut)) (none_opposite cut not_both), none_remain, subst (λ ps. IsOrder cut ps) (sym e) is)
