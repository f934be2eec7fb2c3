-- The first place by name, as one use more is looked at.
use Rattle.std.proofs.Common.{◌≡◌, ℕ, ◌+◌, ◌<◌, Bool, true, false, ◌==◌, List, [], ◌∷◌, ◌++◌, length, take, get_or, map, inl, inr, refl, sym, ap, subst, ◌∙◌, arith}
use Rattle.std.specs.Prelude.{Option, Some, None, IfSome, filter}
use Rattle.std.specs.List.{list_any, All}
use Rattle.std.proofs.lemmas.Bool.{cases_Bool, eqb-true}
use Rattle.std.proofs.lemmas.List.{append-nil, map-append, take_more}
use Rattle.std.proofs.lemmas.List.Elements.{filter-append, All-take}
use Rattle.std.proofs.lemmas.List.Folds.{Any-from_list_any}
use Rattle.rail_model.specs.declared.stair.Use.{Use}
use Rattle.plan_model.specs.declared.cut.Cut.{Cut}
use Rattle.plan_model.specs.Members.{IsFirstPlace, AnswersFirst, leads, no_use}
use Rattle.plan_model.proofs.FirstWith.{moves, stays}
use Rattle.train_order.specs.Taking.{is_among}
use Rattle.train_order.specs.Starts.{is_first_of, places_first}

-- ---- the places of some uses

-- a place of those that start first is one of a use
pub among_used : (named : Bool) (others uses : List Use) (place : ℕ) → is_among (places_first named uses others) place ≡ true
    → list_any (λ (u : Use). u.block == place) uses ≡ true
among_used named others [] place h = absurd (cc)
among_used named others (u ∷ uses) place h =
    elim (cases_Bool (u.block == place)) [
      | inl e ↦ rw e refl
      | inr e ↦ rw e (elim (cases_Bool (is_first_of named others u)) [
        | inl t ↦ among_used named others uses place (rw (t, e) at h)
        | inr f ↦ among_used named others uses place (rw f at h)
      ])
    ]

pub among_within : (n : ℕ) (named : Bool) (others uses : List Use) → All (λ (u : Use). u.block < n) uses → (place : ℕ)
    → is_among (places_first named uses others) place ≡ true → place < n
among_within n named others uses there place h =
    let some = Any-from_list_any (λ (u : Use). u.block == place) uses (among_used named others uses place h) in
    let is : some.1.block ≡ place = eqb-true some.1.block place some.4 in
    omega (arith, is, ap (λ (u : Use). u.block) some.3, there some.0 some.1 some.2)

-- ---- one use more

module _ (cut : Cut) (named : Bool) (uses others : List Use) (k : ℕ) (l : k < length uses) (best : Option ℕ)
    (so_far : AnswersFirst cut (places_first named (take k uses) others) best) where
  abbrev use_here : Use
  use_here = get_or uses k no_use

  abbrev before_it : List ℕ
  before_it = places_first named (take k uses) others

  abbrev with_it : List ℕ
  with_it = places_first named (take (k + 1) uses) others

  abbrev place_of : Use → ℕ
  place_of u = u.block

  grown : with_it ≡ before_it ++ places_first named (use_here ∷ []) others
  grown =
      ap (λ us. places_first named us others) (take_more uses k no_use l)
      ∙ ap (map place_of) (filter-append (is_first_of named others) (take k uses) (use_here ∷ []))
      ∙ map-append place_of (filter (is_first_of named others) (take k uses)) (filter (is_first_of named others) (use_here ∷ []))

  one_more : is_first_of named others use_here ≡ true → with_it ≡ before_it ++ use_here.block ∷ []
  one_more t =
      let here : places_first named (use_here ∷ []) others ≡ use_here.block ∷ [] = rw t refl in
      grown ∙ ap (λ ps. before_it ++ ps) here

  none_more : is_first_of named others use_here ≡ false → with_it ≡ before_it
  none_more f =
      let here : places_first named (use_here ∷ []) others ≡ [] = rw f refl in
      grown ∙ ap (λ ps. before_it ++ ps) here ∙ append-nil before_it

  -- it leads and starts first
  pub found : leads cut best use_here.block ≡ true → is_first_of named others use_here ≡ true
      → AnswersFirst cut with_it (Some use_here.block)
  found t first =
      subst (λ ps. IsFirstPlace cut ps use_here.block) (sym (one_more first)) (moves cut before_it use_here.block best so_far t)

  -- it doesn't lead
  pub not_leading : leads cut best use_here.block ≡ false → AnswersFirst cut with_it best
  not_leading f =
      elim (cases_Bool (is_first_of named others use_here)) [
        | inl t ↦ subst (λ ps. AnswersFirst cut ps best) (sym (one_more t)) (stays cut before_it use_here.block best so_far f)
        | inr n ↦ subst (λ ps. AnswersFirst cut ps best) (sym (none_more n)) so_far
      ]

  -- it doesn't start first
  pub not_first : is_first_of named others use_here ≡ false → AnswersFirst cut with_it best
  not_first n = subst (λ ps. AnswersFirst cut ps best) (sym (none_more n)) so_far

  -- the first of the uses so far is a place
  pub best_within : (n : ℕ) → All (λ (u : Use). u.block < n) uses → IfSome best (λ b. b < n)
  best_within n there = by best so_far where
    by : (o : Option ℕ) → AnswersFirst cut before_it o → IfSome o (λ b. b < n)
    by None none = tt
    by (Some b) first = among_within n named others (take k uses) (All-take (λ (u : Use). u.block < n) k uses there) b first.there
