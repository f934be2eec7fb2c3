-- The first by name of some places.
use Rattle.std.proofs.Common.{◌≡◌, ℕ, ◌<◌, Bool, true, false, List, [], ◌∷◌, ◌∙◌, inl, inr, refl, sym, ap, subst}
use Rattle.std.specs.Prelude.{◌==◌, not, None, Some, find}
use Rattle.std.specs.List.{list_all}
use Rattle.std.proofs.lemmas.Bool.{cases_Bool, cases_order, eqb-true, eq-eqb, and_from, and_parts, or_left, or_right, or_cases, not_from_false, not-true}
use Rattle.rail_model.specs.Name.{is_before}
use Rattle.rail_model.proofs.NameOrder.{same_if_neither}
use Rattle.plan_model.specs.declared.cut.Cut.{Cut}
use Rattle.plan_model.specs.Members.{place_name, place_count, first_by_name}
use Rattle.plan_model.specs.Cut.{IsSoundCut}
use Rattle.plan_model.proofs.MemberTests.{has}

pub all_pass : (test : ℕ → Bool) (some : List ℕ) → ((i : ℕ) → has some i ≡ true → test i ≡ true)
    → list_all test some ≡ true
all_pass test [] each = refl
all_pass test (i ∷ some) each =
    and_from (test i) (list_all test some) (each i (or_left (i == i) (has some i) (eq-eqb i i refl)))
    (all_pass test some (λ k h. each k (or_right (i == k) (has some k) h)))

pub one_passes : (test : ℕ → Bool) (some : List ℕ) (i : ℕ) → list_all test some ≡ true → has some i ≡ true
    → test i ≡ true
one_passes test [] i all h = absurd (cc)
one_passes test (k ∷ some) i all h =
    let parts = and_parts (test k) (list_all test some) all in
    elim (or_cases (k == i) (has some i) h) [
      | inl e ↦ subst (λ m. test m ≡ true) (eqb-true k i e) parts.0
      | inr e ↦ one_passes test some i parts.1 e
    ]

-- a test that one item alone passes finds it
pub find_only : (test : ℕ → Bool) (some : List ℕ) (one : ℕ) → has some one ≡ true → test one ≡ true
    → ((i : ℕ) → has some i ≡ true → test i ≡ true → i ≡ one) → find test some ≡ Some one
find_only test [] one h p only = absurd (cc)
find_only test (i ∷ some) one h p only =
    elim (cases_Bool (test i)) [
      | inl e ↦ rw e (ap Some (only i (or_left (i == i) (has some i) (eq-eqb i i refl)) e))
      | inr e ↦
          elim (or_cases (i == one) (has some one) h) [
            | inl same ↦ absurd (let yes : test i ≡ true = ap test (eqb-true i one same) ∙ p in (cc))
            | inr rest ↦ rw e (find_only test some one rest p (λ k hk pk. only k (or_right (i == k) (has some k) hk) pk))
          ]
    ]

-- the places of a sound cut have different names
same_place : (cut : Cut) → IsSoundCut cut → (c b : ℕ) → c < place_count cut → b < place_count cut
    → place_name cut c ≡ place_name cut b → c ≡ b
same_place cut sound c b lc lb e =
    elim (cases_order c b) [
      | inl same ↦ same
      | inr d ↦ elim d [
        | inl l ↦ absurd (sound.places_differ c b [] l lb e)
        | inr g ↦ absurd (sound.places_differ b c [] g lc (sym e))
      ]
    ]

-- one of some places, before whose name no other's comes, is the first by name
pub first_is : (cut : Cut) → IsSoundCut cut → (some : List ℕ) (b : ℕ)
    → ((c : ℕ) → has some c ≡ true → c < place_count cut) → has some b ≡ true
    → ((c : ℕ) → has some c ≡ true → is_before (place_name cut c) (place_name cut b) ≡ false)
    → first_by_name cut some ≡ Some b
first_is cut sound some b there h first =
    find_only (λ b. list_all (λ c. not (is_before (place_name cut c) (place_name cut b))) some) some b h
    (all_pass (λ c. not (is_before (place_name cut c) (place_name cut b))) some
    (λ c e. not_from_false (is_before (place_name cut c) (place_name cut b)) (first c e)))
    (λ c e all.
    let other = one_passes (λ d. not (is_before (place_name cut d) (place_name cut c))) some b all h in
    same_place cut sound c b (there c e) (there b h)
    (same_if_neither (place_name cut c) (place_name cut b) (first c e) (not-true (is_before (place_name cut b) (place_name cut c)) other)))

-- of no places there is none
pub first_of_none : (cut : Cut) (some : List ℕ) → ((b : ℕ) → has some b ≡ true → ⊥) → first_by_name cut some ≡ None
first_of_none cut [] none = refl
first_of_none cut (b ∷ some) none = absurd (none b (or_left (b == b) (has some b) (eq-eqb b b refl)))
