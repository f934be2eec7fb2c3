-- What holds at each place of a list still does after a change of one place, or one more at the end.
use Rattle.std.proofs.Common.{◌≡◌, ◌≢◌, ◌⊎◌, ℕ, zero, suc, ◌+◌, ◌<◌, List, [], ◌∷◌, ◌++◌, length, set, sym, ap, ◌∙◌}
use Rattle.std.proofs.Common.{get_or, subst, refl, inl, inr, ⊎_elim, arith}
use Rattle.std.proofs.lemmas.List.Sums.{sum_by-set, sum_by_push}
use mathlib.Core.Option.{some, some-injective, some-ne-none}
use lib.ListN.{get_elem?}
use Rattle.atomic_table.proofs.Lists.{at_set, set_here, set_else}
use mathlib.Core.Logic.{dite}
use native.Mathlib.Decide.{ℕ_discrete}
use Rattle.turn_desk.specs.declared.rule.View.{View}
use Rattle.turn_desk.specs.Rule.{At, steps_of}

module _ {A : Type 0} where
  pub at_short : (l : List A) (i : ℕ) (a : A) → get_elem? l i ≡ some a → i < length l
  at_short [] i a e = absurd (some-ne-none a (sym e))
  at_short (x ∷ xs) zero a e = omega arith
  at_short (x ∷ xs) (suc i) a e = let h = at_short xs i a e in omega arith

  pub at_is : (l : List A) (i : ℕ) (a : A) → get_elem? l i ≡ some a → get_or l i a ≡ a
  at_is [] i a e = refl
  at_is (x ∷ xs) zero a e = some-injective x a e
  at_is (x ∷ xs) (suc i) a e = at_is xs i a e

  pub at_same : (l : List A) (i : ℕ) (a b : A) → get_elem? l i ≡ some a → get_elem? l i ≡ some b → a ≡ b
  at_same l i a b e f = some-injective a b (sym e ∙ f)

  pub at_changed : (l : List A) (i : ℕ) (a b : A) → get_elem? l i ≡ some a → get_elem? (set l i b) i ≡ some b
  at_changed l i a b e = set_here l i b (at_short l i a e)

  pub at_only : (a b : A) (i : ℕ) → get_elem? (a ∷ []) i ≡ some b → (i ≡ 0) × (a ≡ b)
  at_only a b zero e = (refl, some-injective a b e)
  at_only a b (suc i) e = absurd (some-ne-none b (sym e))

  pub at_end : (l : List A) (a b : A) (i : ℕ) → get_elem? (l ++ a ∷ []) i ≡ some b → (get_elem? l i ≡ some b)
      ⊎ ((i ≡ length l) × (a ≡ b))
  at_end [] a b i e = inr (at_only a b i e)
  at_end (x ∷ xs) a b zero e = inl e
  at_end (x ∷ xs) a b (suc i) e = ⊎_elim (λ t. inl t) (λ t. inr (ap suc t.0, t.1)) (at_end xs a b i e)

  pub all_set : (l : List A) (i : ℕ) (a : A) (P : ℕ → A → Type 0) → P i a
      → ((j : ℕ) (b : A) → j ≢ i → get_elem? l j ≡ some b → P j b)
      → (j : ℕ) (b : A) → get_elem? (set l i a) j ≡ some b → P j b
  all_set l i a P here other j b e =
      ⊎_elim (λ t. subst (λ (z : ℕ × A). P z.0 z.1) (λ k. (sym t.0 k, t.1 k)) here) (λ t. other j b t.0 t.1)
      (at_set l i j a b e)

  pub all_end : (l : List A) (a : A) (P : ℕ → A → Type 0) → ((j : ℕ) (b : A) → get_elem? l j ≡ some b → P j b)
      → P (length l) a
      → (j : ℕ) (b : A) → get_elem? (l ++ a ∷ []) j ≡ some b → P j b
  all_end l a P other here j b e =
      ⊎_elim (λ t. other j b t) (λ t. subst (λ (z : ℕ × A). P z.0 z.1) (λ k. (sym t.0 k, t.1 k)) here)
      (at_end l a b j e)

  -- a fact of the element at a place, which a change of one place keeps
  pub kept_at : (l : List A) (i k : ℕ) (a b c : A) (R : A → Type 0) → get_elem? l i ≡ some a → get_elem? l k ≡ some c
      → R c → (R a → R b)
      → (d : A) × (get_elem? (set l i b) k ≡ some d) × R d
  kept_at l i k a b c R at here r on = dite (ℕ_discrete k i)
      (λ e. (
        b,
        subst (λ z. get_elem? (set l i b) z ≡ some b) (sym e) (at_changed l i a b at),
        on (subst R (at_same l i c a (subst (λ z. get_elem? l z ≡ some c) e here) at) r),
      ))
      (λ ne. (c, set_else l i k b ne ∙ here, r))

module _ {E : Type 0} where
  pub steps_of-set : (l : List (View E)) (i : ℕ) (v w : View E) → At l i v
      → steps_of (set l i w) + v.steps ≡ steps_of l + w.steps
  steps_of-set l i v w e =
      let steps = λ (u : View E). u.steps in
      let here : steps (get_or l i v) ≡ v.steps = ap steps (at_is l i v e) in
      omega (arith, sum_by-set steps l i w v (at_short l i v e))

  pub steps_of-end : (l : List (View E)) (w : View E) → steps_of (l ++ w ∷ []) ≡ steps_of l + w.steps
  steps_of-end l w = sum_by_push (λ (u : View E). u.steps) l w
