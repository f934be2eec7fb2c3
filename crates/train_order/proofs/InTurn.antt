-- The visits of a place in the order of precedence: one of each member that uses it, and one stands before another where
-- its member precedes the other's.
use Rattle.std.proofs.Common.{◌≡◌, ℕ, zero, suc, ◌<◌, ◌≤◌, Bool, true, false, ◌&&◌, ◌||◌, ◌==◌, List, [], ◌∷◌, length, get_or, inl, inr, refl, sym, ap, subst, ◌∙◌, arith}
use Rattle.std.specs.Prelude.{filter, map}
use Rattle.std.specs.List.{list_any, All, Contains}
use Rattle.std.specs.List.Sorted.{IsPermutation}
use Rattle.std.proofs.lemmas.Bool.{cases_Bool, cases_lt, and_parts, and_from, or_cases, or_left, or_right, eqb-true, eq-eqb, both_ways}
use Rattle.std.proofs.lemmas.List.{get_or_default, get_or-map, length-map}
use Rattle.std.proofs.lemmas.Simd.{map-map}
use Rattle.std.proofs.lemmas.List.Elements.{All-map, All-from_get_or}
use Rattle.std.proofs.lemmas.List.Folds.{list_any_at}
use Rattle.std.proofs.lemmas.List.Sorted.{All-permutation, Contains-permutation, IsPermutation-map, sorted_far, ranks_by}
use Rattle.rail_model.proofs.Lists.{map_itself}
use Rattle.plan_model.specs.declared.cut.Cut.{Cut}
use Rattle.plan_model.specs.Members.{member, member_count, members, uses_place, use_at, precedes}
use Rattle.plan_model.specs.Cut.{IsSoundCut}
use Rattle.plan_model.proofs.MemberTests.{has-range, in_range, has-filter, filter-has}
use Rattle.train_order.specs.declared.visits.Visit.{Visit}
use Rattle.train_order.specs.declared.member_set.MemberSet.{MemberSet}
use Rattle.train_order.specs.Sets.{relates}
use Rattle.train_order.specs.Visits.{no_visit, visit_at, visits, key_of, is_earlier, AreInTurn, comes_first}
use Rattle.train_order.proofs.Among.{among_at, stands_at}
use Rattle.train_order.proofs.Apart.{passing_differ, not_twice as not_twice_in}
use Rattle.train_order.proofs.Before.{key_cmp_total, earlier_is, not_later}

module _ (cut : Cut) (place : ℕ) where
  abbrev user : ℕ → Bool
  user i = uses_place (member cut i) place

  -- a visit is that of a member that uses the place
  pub record IsVisit (v : Visit) : Type 0 where
    pub there : v.member < member_count cut
    pub used : user v.member ≡ true
    pub is : v ≡ visit_at cut place v.member

  pub all_visits : All IsVisit (visits cut place)
  all_visits =
      All-map IsVisit (visit_at cut place) (filter user (members cut))
      (All-from_get_or (λ i. IsVisit (visit_at cut place i)) (filter user (members cut)) 0 (λ k l.
      let here = filter-has user (members cut) _ (among_at (filter user (members cut)) k _ l refl) in
      record { there = omega (arith, in_range 0 (member_count cut) _ here.0); used = here.1; is = refl }))

  pub visitors_there : All (λ v. v.member < member_count cut) (visits cut place)
  visitors_there k d l = (all_visits k d l).there

  in_visits : (i : ℕ) → i < member_count cut → user i ≡ true → Contains (visits cut place) (visit_at cut place i)
  in_visits i l used =
      let s = stands_at (filter user (members cut)) i (has-filter user (members cut) i (has-range (member_count cut) i l) used) in (
        s.at,
        omega (arith, s.within, length-map (filter user (members cut)) (visit_at cut place)),
        get_or-map (visit_at cut place) (filter user (members cut)) s.at 0 _ s.within ∙ ap (visit_at cut place) s.is,
      )

module _ (cut : Cut) (place : ℕ) (some : List Visit) (turn : AreInTurn cut place some) where
  abbrev at : ℕ → Visit
  at k = get_or some k no_visit

  abbrev by : Visit → ℕ
  by v = v.member

  pub is_visit : (k : ℕ) → k < length some → IsVisit cut place (at k)
  is_visit k l = All-permutation (IsVisit cut place) (visits cut place) some turn.same (all_visits cut place) k no_visit l

  pub all_there : All (λ v. v.member < member_count cut) some
  all_there =
      All-permutation (λ v. v.member < member_count cut) (visits cut place) some turn.same (visitors_there cut place)

  -- the visit of a member that uses the place stands somewhere
  stands : (i : ℕ) → i < member_count cut → uses_place (member cut i) place ≡ true
      → (k : ℕ) × (k < length some) × (at k ≡ visit_at cut place i)
  stands i l used =
      let c = Contains-permutation (visits cut place) some (visit_at cut place i) turn.same (in_visits cut place i l used) in
      (c.0, c.1, get_or_default some c.0 no_visit (visit_at cut place i) c.1 ∙ c.2)

  -- no two are by one member
  not_twice : (k l : ℕ) → k < l → l < length some → (at k).member ≡ (at l).member → ⊥
  not_twice k l lt ll e =
      let users = filter (user cut place) (members cut) in
      let same : IsPermutation users (map by some) =
      subst (λ is. IsPermutation is (map by some)) (map-map by (visit_at cut place) users ∙ map_itself users)
      (IsPermutation-map by (visits cut place) some turn.same) in
      not_twice_in users (map by some) (passing_differ (user cut place) (member_count cut)) same k l lt
      (omega (arith, ll, length-map some by))
      (get_or-map by some k no_visit 0 (omega (arith, lt, ll)) ∙ e ∙ sym (get_or-map by some l no_visit 0 ll))

  far : (k l : ℕ) → k ≤ l → l < length some → is_earlier (key_of (at l)) (key_of (at k)) ≡ false
  far k l le ll =
      sorted_far (λ v w. is_earlier (key_of v) (key_of w)) (ranks_by key_cmp_total key_of) some turn.order k l no_visit le ll

  module _ (sound : IsSoundCut cut) where
    -- what precedence at the place is by visits
    by_visits : (i j : ℕ) → i < member_count cut → j < member_count cut
        → precedes (member cut i) (member cut j) place
        ≡ ((uses_place (member cut i) place && uses_place (member cut j) place)
        && is_earlier (key_of (visit_at cut place i)) (key_of (visit_at cut place j)))
    by_visits i j li lj =
        ap (λ b. (uses_place (member cut i) place && uses_place (member cut j) place) && b)
        (earlier_is cut sound (use_at (member cut i) place).start (use_at (member cut j) place).start i j li lj)

    -- a visit's member precedes that of a later one
    pub goes_first : (k l : ℕ) → k < l → l < length some
        → precedes (member cut (at k).member) (member cut (at l).member) place ≡ true
    goes_first k l lt ll =
        let v = is_visit k (omega (arith, lt, ll)) in
        let w = is_visit l ll in
        let earlier : is_earlier (key_of (at k)) (key_of (at l)) ≡ true =
        not_later (at k).start (at l).start (at k).member (at l).member (not_twice k l lt ll) (far k l (omega (arith, lt)) ll) in
        let there : is_earlier (key_of (visit_at cut place (at k).member)) (key_of (visit_at cut place (at l).member)) ≡ true =
        subst (λ x. is_earlier (key_of x) (key_of (visit_at cut place (at l).member)) ≡ true) v.is
        (subst (λ x. is_earlier (key_of (at k)) (key_of x) ≡ true) w.is earlier) in
        by_visits (at k).member (at l).member v.there w.there ∙ and_from _ _ (and_from _ _ v.used w.used) there

    -- the visits of two members of which one precedes the other
    pub record StandInOrder (i j : ℕ) : Type 0 where
      pub k : ℕ
      pub l : ℕ
      pub before : k < l
      pub within : l < length some
      pub one : at k ≡ visit_at cut place i
      pub other : at l ≡ visit_at cut place j

    pub in_order : (i j : ℕ) → i < member_count cut → j < member_count cut
        → precedes (member cut i) (member cut j) place ≡ true → StandInOrder i j
    in_order i j li lj h =
        let whole = and_parts _ _ (sym (by_visits i j li lj) ∙ h) in
        let used = and_parts _ _ whole.0 in
        let one = stands i li used.0 in
        let other = stands j lj used.1 in
        let earlier : is_earlier (key_of (at one.0)) (key_of (at other.0)) ≡ true =
        subst (λ x. is_earlier (key_of x) (key_of (at other.0)) ≡ true) (sym one.2)
        (subst (λ x. is_earlier (key_of (visit_at cut place i)) (key_of x) ≡ true) (sym other.2) whole.1) in
        elim (cases_lt one.0 other.0) [
          | inl l ↦ record { k = one.0; l = other.0; before = l; within = other.1; one = one.2; other = other.2 }
          | inr g ↦ absurd (both_ways _ (far other.0 one.0 g one.1) earlier)
        ]

-- ---- who comes first among some visits

record StandsFirst (visits : List Visit) (i j : ℕ) : Type 0 where
  at : ℕ
  next : ℕ
  before : at < next
  within : next < length visits
  one : (get_or visits at no_visit).member ≡ i
  other : (get_or visits next no_visit).member ≡ j

somewhere : (visits : List Visit) (j : ℕ) → list_any (λ (w : Visit). w.member == j) visits ≡ true
    → (k : ℕ) × (k < length visits) × ((get_or visits k no_visit).member ≡ j)
somewhere [] j h = absurd (cc)
somewhere (v ∷ visits) j h =
    elim (or_cases (v.member == j) (list_any (λ (w : Visit). w.member == j) visits) h) [
      | inl e ↦ (0, omega arith, eqb-true v.member j e)
      | inr e ↦ let r = somewhere visits j e in (suc r.0, omega (arith, r.1), r.2)
    ]

stand_first : (visits : List Visit) (i j : ℕ) → comes_first visits i j ≡ true → StandsFirst visits i j
stand_first [] i j h = absurd (cc)
stand_first (v ∷ visits) i j h =
    elim (or_cases ((v.member == i) && list_any (λ (w : Visit). w.member == j) visits) (comes_first visits i j) h) [
      | inl e ↦
          let both = and_parts (v.member == i) (list_any (λ (w : Visit). w.member == j) visits) e in
          let r = somewhere visits j both.1 in
          record {
            at = 0;
            next = suc r.0;
            before = omega arith;
            within = omega (arith, r.1);
            one = eqb-true v.member i both.0;
            other = r.2;
          }
      | inr e ↦
          let r = stand_first visits i j e in
          record {
            at = suc r.at;
            next = suc r.next;
            before = omega (arith, r.before);
            within = omega (arith, r.within);
            one = r.one;
            other = r.other;
          }
    ]

from_stands : (visits : List Visit) (i j k l : ℕ) → k < l → l < length visits
    → (get_or visits k no_visit).member ≡ i → (get_or visits l no_visit).member ≡ j → comes_first visits i j ≡ true
from_stands [] i j k l lt ll p q = absurd (omega (arith, ll))
from_stands (v ∷ visits) i j k zero lt ll p q = absurd (omega arith)
from_stands (v ∷ visits) i j zero (suc l) lt ll p q =
    or_left _ (comes_first visits i j) (and_from (v.member == i) _ (eq-eqb v.member i p)
    (list_any_at (λ (w : Visit). w.member == j) visits l no_visit (omega (arith, ll)) (eq-eqb _ j q)))
from_stands (v ∷ visits) i j (suc k) (suc l) lt ll p q =
    or_right _ (comes_first visits i j) (from_stands visits i j k l (omega arith) (omega (arith, ll)) p q)

same_test : (a b : Bool) → (a ≡ true → b ≡ true) → (b ≡ true → a ≡ true) → a ≡ b
same_test a b p q =
    elim (cases_Bool a) [
      | inl e ↦ e ∙ sym (p e)
      | inr e ↦ elim (cases_Bool b) [ inl f ↦ absurd (both_ways a e (q f)) | inr f ↦ e ∙ sym f ]
    ]

-- sets that take in the visits take in who precedes whom at the place
module _ (cut : Cut) (sound : IsSoundCut cut) (place : ℕ) (some : List Visit) (turn : AreInTurn cut place some) where
  comes_first_is : (i j : ℕ) → i < member_count cut → j < member_count cut
      → comes_first some i j ≡ precedes (member cut i) (member cut j) place
  comes_first_is i j li lj =
      same_test _ _
      (λ h.
      let s = stand_first some i j h in
      subst (λ k. precedes (member cut k) (member cut j) place ≡ true) s.one
      (subst (λ k. precedes (member cut (get_or some s.at no_visit).member) (member cut k) place ≡ true) s.other
      (goes_first cut place some turn sound s.at s.next s.before s.within)))
      (λ h.
      let s = in_order cut place some turn sound i j li lj h in
      from_stands some i j s.k s.l s.before s.within (ap (λ (v : Visit). v.member) s.one) (ap (λ (v : Visit). v.member) s.other))

  pub taken_in : (before after : List MemberSet)
      → ((i j : ℕ) → relates after i j ≡ (relates before i j || comes_first some i j))
      → (i j : ℕ) → i < member_count cut → j < member_count cut
      → relates after i j ≡ (relates before i j || precedes (member cut i) (member cut j) place)
  taken_in before after h i j li lj = h i j ∙ ap (λ b. relates before i j || b) (comes_first_is i j li lj)
