-- The ties that trains have are those that a cut gives them by their entries.
use Rattle.std.proofs.Common.{◌≡◌, ℕ, zero, suc, ◌+◌, ◌<◌, ◌≤◌, Bool, true, false, ◌==◌, ◌&&◌, List, inl, inr, refl, sym, ap, subst, ◌∙◌, arith}
use Rattle.std.specs.Prelude.{◌≢◌, nat_lt, ℤ, Some, find, filter, not, unwrap_or, option_map, option_and_then}
use Rattle.std.specs.List.{list_any, range_with_len}
use Rattle.std.specs.Ordering.{int_eq}
use Rattle.std.proofs.lemmas.Bool.{cases_Bool, cases_eq, and_parts, and_cases, or_parts, or_from, eqb-true, eq-eqb, ltb-false, ltb-true, both_ways, false_from_ne_true, not-true}
use Rattle.std.proofs.lemmas.Bool.Decides.{Decides-int_eq}
use Rattle.std.proofs.lemmas.Option.{same_Some}
use Rattle.std.proofs.lemmas.List.Folds.{Any-from_list_any}
use Rattle.rail_model.specs.Name.{is_before}
use Rattle.plan_model.specs.declared.cut.Cut.{Cut}
use Rattle.plan_model.specs.declared.answer.Tie.{Tie}
use Rattle.plan_model.specs.declared.answer.Tie.TheVariants.{Start, After}
use Rattle.plan_model.specs.Members.{places, place_name, place_count, member, member_count, precedes}
use Rattle.plan_model.specs.Cut.{IsSoundCut}
use Rattle.plan_model.specs.Schedule.{window_start, entry_at, start_by, end_by, touches, touch, touching_member, touching_place, tie_of}
use Rattle.plan_model.proofs.MemberTests.{has-range, has_any, has-filter, filter-has, in_range}
use Rattle.plan_model.proofs.FirstByName.{first_is, one_passes}
use Rattle.plan_model.proofs.Uses.{place_there}
use Rattle.critical_chain.specs.Parts.{IsWithin, HasTie, comes_first}
use Rattle.critical_chain.proofs.Ties.{bound, touch_at}
use Rattle.train_order.proofs.Find.{first_found}
use Rattle.train_order.proofs.Users.{user_there, users}

-- a train's tie names a member and a place, if it names any
pub within : (cut : Cut) (entries : List ℤ) (j : ℕ) (tie : Tie) → HasTie cut entries j tie → IsWithin cut tie
within cut entries j Start h = tt
within cut entries j (After i place) h = h.pair

-- what is found first in a range passes, and nothing before it does
none_before : (test : ℕ → Bool) (a n i k : ℕ) → find test (range_with_len a n) ≡ Some i → a ≤ k → k < i → test k ≡ false
none_before test a zero i k e le l = absurd (cc)
none_before test a (suc n) i k e le l =
    elim (cases_Bool (test a)) [
      | inl t ↦ absurd (let is : a ≡ i = same_Some a i (rw t at e) in omega (arith, is, le, l))
      | inr t ↦ elim (cases_eq a k) [
        | inl is ↦ ap test (sym is) ∙ t
        | inr ne ↦ none_before test (a + 1) n i k (rw t at e) (omega arith) l
      ]
    ]

module _ (cut : Cut) (entries : List ℤ) (sound : IsSoundCut cut) where
  -- one that touches is a member, precedes, and ends as the other starts
  pub record Touches (i j place : ℕ) : Type 0 where
    pub member_there : i < member_count cut
    pub place_is : place < place_count cut
    pub before : precedes (member cut i) (member cut j) place ≡ true
    pub ends : end_by cut entries i place ≡ start_by cut entries j place

  pub touching : (i j place : ℕ) → touches cut entries i j place ≡ true → Touches i j place
  touching i j place h =
      let parts = and_parts (precedes (member cut i) (member cut j) place) _ h in
      let used = users cut i j place parts.0 in
      let there = user_there cut i place used.0 in
      record {
        member_there = there;
        place_is = place_there cut sound i place there used.0;
        before = parts.0;
        ends = (Decides-int_eq (end_by cut entries i place) (start_by cut entries j place)).0 parts.1;
      }

  module _ (j : ℕ) (lj : j < member_count cut) where
    -- no member and place that touch come before a tie
    abbrev pub IsFirstTouch : Tie → Type 0
    IsFirstTouch tie = (i place : ℕ) → touches cut entries i j place ≡ true → comes_first cut i place tie ≡ false

    -- ---- a tie that the train has, and before which none comes

    pub tie_by : (tie : Tie) → HasTie cut entries j tie → IsFirstTouch tie → tie ≡ tie_of cut entries j
    tie_by Start e first =
        let at = (Decides-int_eq (entry_at entries j) (window_start cut)).1 e in rw at refl
    tie_by (After i p) h first =
        let late : int_eq (entry_at entries j) (window_start cut) ≡ false =
        false_from_ne_true (int_eq (entry_at entries j) (window_start cut))
        (λ e. h.later ((Decides-int_eq (entry_at entries j) (window_start cut)).0 e)) in
        let in_places = has-range (place_count cut) p h.pair.place_there in
        let member_is : touching_member cut entries j ≡ Some i =
        first_found (λ k. list_any (touches cut entries k j) (places cut)) 0 (member_count cut) i (omega arith)
        (omega (arith, h.pair.train_there))
        (λ k from l. false_from_ne_true _ (λ t.
        let at = Any-from_list_any (touches cut entries k j) (places cut) t in
        let le = ltb-false k i (or_parts (nat_lt k i) _ (first k at.1 at.4)).0 in
        omega (arith, le, l)))
        (has_any (touches cut entries i j) (places cut) p in_places h.touch) in
        let place_is : touching_place cut entries i j ≡ Some p =
        first_is cut sound (filter (touches cut entries i j) (places cut)) p
        (λ q t. (let l = in_range 0 (place_count cut) q (filter-has (touches cut entries i j) (places cut) q t).0 in
        omega (arith, l)))
        (has-filter (touches cut entries i j) (places cut) p in_places h.touch)
        (λ q t.
        elim (and_cases (i == i) (is_before (place_name cut q) (place_name cut p))
        (or_parts (nat_lt i i) _ (first i q (filter-has (touches cut entries i j) (places cut) q t).1)).1) [
          | inl ne ↦ absurd (both_ways (i == i) ne (eq-eqb i i refl))
          | inr n ↦ n
        ]) in
        let is : touch cut entries j ≡ Some (After i p) =
        ap (option_and_then (λ m. option_map (After m) (touching_place cut entries m j))) member_is
        ∙ ap (option_map (After i)) place_is in
        rw late (sym (ap (λ o. unwrap_or o Start) is))

    -- ---- the tie that the train is given

    later_than_start : (i p : ℕ) → tie_of cut entries j ≡ After i p → entry_at entries j ≢ window_start cut
    later_than_start i p is e =
        let at = (Decides-int_eq (entry_at entries j) (window_start cut)).1 e in
        absurd (let same : Start ≡ After i p = rw at at is in cc)

    pub has_tie : (tie : Tie) → tie_of cut entries j ≡ tie
        → (tie_of cut entries j ≡ Start → entry_at entries j ≡ window_start cut) → HasTie cut entries j tie
    has_tie Start is starts = starts is
    has_tie (After i p) is starts =
        let b = bound cut entries i p j is in
        record {
          later = later_than_start i p is;
          pair = record { train_there = b.member; place_there = b.place };
          touch = (touch_at cut entries i p j is).touch;
        }

    pub first_touch : (tie : Tie) → tie_of cut entries j ≡ tie → IsFirstTouch tie
    first_touch Start is i place t = refl
    first_touch (After k p) is i place t =
        let at = touch_at cut entries k p j is in
        let its = touching i j place t in
        let in_places = has-range (place_count cut) place its.place_is in
        let not_less : nat_lt i k ≡ false =
        false_from_ne_true (nat_lt i k) (λ l.
        both_ways (list_any (touches cut entries i j) (places cut))
        (none_before (λ m. list_any (touches cut entries m j) (places cut)) 0 (member_count cut) k i at.member (omega arith)
        (ltb-true i k l))
        (has_any (touches cut entries i j) (places cut) place in_places t)) in
        let not_named : (i == k && is_before (place_name cut place) (place_name cut p)) ≡ false =
        false_from_ne_true (i == k && is_before (place_name cut place) (place_name cut p)) (λ b.
        let both = and_parts (i == k) (is_before (place_name cut place) (place_name cut p)) b in
        let touched : touches cut entries k j place ≡ true = subst (λ m. touches cut entries m j place ≡ true) (eqb-true i k both.0) t in
        both_ways (is_before (place_name cut place) (place_name cut p))
        (not-true (is_before (place_name cut place) (place_name cut p))
        (one_passes (λ c. not (is_before (place_name cut c) (place_name cut p)))
        (filter (touches cut entries k j) (places cut)) place at.first
        (has-filter (touches cut entries k j) (places cut) place in_places touched))) both.1) in
        or_from (nat_lt i k) (i == k && is_before (place_name cut place) (place_name cut p)) not_less not_named
