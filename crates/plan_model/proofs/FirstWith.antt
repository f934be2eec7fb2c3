-- The first by name of some places, as one place after the other is looked at.
use Rattle.std.proofs.Common.{◌≡◌, ◌⊎◌, ℕ, ◌<◌, Bool, true, false, ◌||◌, ◌==◌, List, [], ◌∷◌, ◌++◌, inl, inr, refl, sym, ap, subst, ◌∙◌}
use Rattle.std.specs.Prelude.{Option, Some, None}
use Rattle.std.proofs.lemmas.Bool.{cases_Bool, or_cases, or_left, or_right, eqb-true, eq-eqb, both_ways, false_from_ne_true}
use Rattle.std.proofs.lemmas.List.Folds.{list_any-append}
use Rattle.rail_model.specs.Name.{is_before}
use Rattle.rail_model.proofs.NameOrder.{IsBefore-from, is_before-itself, is_before-through, is_before-from, IsBefore-trans}
use Rattle.plan_model.specs.declared.cut.Cut.{Cut}
use Rattle.plan_model.specs.Members.{place_name, place_count, first_by_name, is_among, leads, first_with, IsFirstPlace, AnswersFirst}
use Rattle.plan_model.specs.Cut.{IsSoundCut}
use Rattle.plan_model.proofs.FirstByName.{first_is}

-- ---- one place more

pub among_both : (some : List ℕ) (p q : ℕ) → is_among (some ++ p ∷ []) q ≡ true → (is_among some q ≡ true) ⊎ (p ≡ q)
among_both some p q h =
    elim (or_cases (is_among some q) ((p == q) || false) (sym (list_any-append (λ k. k == q) some (p ∷ [])) ∙ h)) [
      | inl e ↦ inl e
      | inr e ↦ elim (or_cases (p == q) false e) [ inl f ↦ inr (eqb-true p q f) | inr f ↦ absurd (cc) ]
    ]

pub among_old : (some : List ℕ) (p q : ℕ) → is_among some q ≡ true → is_among (some ++ p ∷ []) q ≡ true
among_old some p q h = list_any-append (λ k. k == q) some (p ∷ []) ∙ or_left (is_among some q) _ h

pub among_new : (some : List ℕ) (p : ℕ) → is_among (some ++ p ∷ []) p ≡ true
among_new some p =
    list_any-append (λ k. k == p) some (p ∷ [])
    ∙ or_right (is_among some p) _ (or_left (p == p) false (eq-eqb p p refl))

module _ (cut : Cut) where
  abbrev before : ℕ → ℕ → Bool
  before p q = is_before (place_name cut p) (place_name cut q)

  -- a place before all of some is the first of them and it
  takes : (some : List ℕ) (p : ℕ) → ((q : ℕ) → is_among some q ≡ true → before p q ≡ true)
      → IsFirstPlace cut (some ++ p ∷ []) p
  takes some p first = record {
    there = among_new some p;
    least = λ q h. elim (among_both some p q h) [
      | inl m ↦
          false_from_ne_true (before q p) (λ t. both_ways (before p p) (is_before-itself (place_name cut p))
          (is_before-from (place_name cut p) (place_name cut p) (IsBefore-trans (place_name cut p) (place_name cut q) (place_name cut p)
          (IsBefore-from (place_name cut p) (place_name cut q) (first q m)) (IsBefore-from (place_name cut q) (place_name cut p) t))))
      | inr e ↦ subst (λ x. before x p ≡ false) e (is_before-itself (place_name cut p))
    ];
  }

  -- a place that leads is the first of some and it
  pub moves : (some : List ℕ) (p : ℕ) (best : Option ℕ) → AnswersFirst cut some best → leads cut best p ≡ true
      → IsFirstPlace cut (some ++ p ∷ []) p
  moves some p None none t =
      subst (λ ps. IsFirstPlace cut (ps ++ p ∷ []) p) (sym none) (takes [] p (λ q m. absurd (cc)))
  moves some p (Some b) first t =
      takes some p (λ q m. is_before-through (place_name cut p) (place_name cut b) (place_name cut q) t (first.least q m))

  -- the first of some stays the first where another doesn't lead
  pub stays : (some : List ℕ) (p : ℕ) (best : Option ℕ) → AnswersFirst cut some best → leads cut best p ≡ false
      → AnswersFirst cut (some ++ p ∷ []) best
  stays some p None none f = absurd (cc)
  stays some p (Some b) first f = record {
    there = among_old some p b first.there;
    least = λ q h. elim (among_both some p q h) [
      | inl m ↦ first.least q m
      | inr e ↦ subst (λ x. before x b ≡ false) e f
    ];
  }

  pub one_more : (some : List ℕ) (p : ℕ) (best : Option ℕ) → AnswersFirst cut some best
      → AnswersFirst cut (some ++ p ∷ []) (first_with cut best p)
  one_more some p best first =
      elim (cases_Bool (leads cut best p)) [
        | inl t ↦ rw t (moves some p best first t)
        | inr f ↦ rw f (stays some p best first f)
      ]

  -- in a sound cut that is the first by name
  pub is_first : IsSoundCut cut → (some : List ℕ) (best : Option ℕ)
      → ((c : ℕ) → is_among some c ≡ true → c < place_count cut) → AnswersFirst cut some best
      → first_by_name cut some ≡ best
  is_first sound some None there none = ap (first_by_name cut) none
  is_first sound some (Some b) there first = first_is cut sound some b there first.there first.least
