-- Numbers below n, each once: with those that are left they are all numbers below n.
use Rattle.std.proofs.Common.{◌≡◌, ℕ, zero, suc, ◌+◌, ◌<◌, ◌≤◌, Bool, true, false, not, ◌&&◌, ◌==◌, List, [], ◌∷◌, ◌++◌, length, inl, inr, refl, sym, ap, subst, ◌∙◌, arith, length-append}
use Rattle.std.specs.Prelude.{filter}
use Rattle.std.specs.List.{range_with_len, All}
use Rattle.std.specs.List.Sorted.{IsPermutation}
use Rattle.std.proofs.lemmas.Bool.{cases_Bool, cases_eq, and_from, and_right, eq-eqb, ne_eqb, not_from_false}
use Rattle.std.proofs.lemmas.List.Elements.{All-head, All-tail}
use Rattle.std.proofs.lemmas.List.FromFn.{length-range_with_len}
use Rattle.std.proofs.lemmas.List.Sorted.{IsPermutation-refl, IsPermutation-trans, IsPermutation-append_right, IsPermutation-middle, IsPermutation-filter_both, length_permutation}
pub use Rattle.train_order.specs.Taking.{left_of}
use Rattle.train_order.specs.Taking.{is_among, IsDistinct}
use Rattle.train_order.proofs.Ranges.{same_passing}

pub twice : (p q : ℕ → Bool) (some : List ℕ) → filter q (filter p some) ≡ filter (λ i. p i && q i) some
twice p q [] = refl
twice p q (k ∷ some) =
    elim (cases_Bool (p k)) [
      | inl e ↦ elim (cases_Bool (q k)) [
        | inl f ↦ rw (e, f) (ap (λ xs. k ∷ xs) (twice p q some))
        | inr f ↦ rw (e, f) (twice p q some)
      ]
      | inr e ↦ rw e (twice p q some)
    ]

pub all_pass : (p : ℕ → Bool) (a n : ℕ) → ((i : ℕ) → p i ≡ true) → filter p (range_with_len a n) ≡ range_with_len a n
all_pass p a zero h = refl
all_pass p a (suc n) h = let e : p a ≡ true = h a in rw e (ap (λ xs. a ∷ xs) (all_pass p (a + 1) n h))

none_passes : (p : ℕ → Bool) (a n : ℕ) → ((i : ℕ) → a ≤ i → p i ≡ false) → filter p (range_with_len a n) ≡ []
none_passes p a zero h = refl
none_passes p a (suc n) h =
    let e : p a ≡ false = h a (omega arith) in rw e (none_passes p (a + 1) n (λ i l. h i (omega arith)))

one_passes : (p : ℕ → Bool) (a n x : ℕ) → a ≤ x → x < a + n → p x ≡ true → ((i : ℕ) → (i ≡ x → ⊥) → p i ≡ false)
    → filter p (range_with_len a n) ≡ x ∷ []
one_passes p a zero x l m t f = absurd (omega arith)
one_passes p a (suc n) x l m t f =
    elim (cases_eq a x) [
      | inl e ↦
          let ta : p a ≡ true = ap p e ∙ t in
          rw ta (ap (λ xs. a ∷ xs) (none_passes p (a + 1) n (λ i li. f i (λ (s : i ≡ x). omega arith))) ∙ ap (λ k. k ∷ []) e)
      | inr ne ↦ let fa : p a ≡ false = f a ne in rw fa (one_passes p (a + 1) n x (omega (arith, ne)) (omega arith) t f)
    ]

module _ (n : ℕ) where
  abbrev open_to : List ℕ → ℕ → Bool
  open_to some i = not (is_among some i)

  -- what is left without x as well
  rest_is : (x : ℕ) (some : List ℕ) → filter (λ i. not (x == i)) (left_of n some) ≡ left_of n (x ∷ some)
  rest_is x some =
      twice (open_to some) (λ i. not (x == i)) (range_with_len 0 n)
      ∙ same_passing (open_to (x ∷ some)) (λ i. not (is_among some i) && not (x == i)) 0 n (λ i l m.
      elim (cases_Bool (x == i)) [
        | inl e ↦ rw e (and_right (not (is_among some i)) false refl)
        | inr e ↦ rw e (elim (cases_Bool (is_among some i)) [ inl f ↦ rw f refl | inr f ↦ rw f refl ])
      ])

  one_is : (x : ℕ) (some : List ℕ) → x < n → is_among some x ≡ false → filter (λ i. x == i) (left_of n some) ≡ x ∷ []
  one_is x some l fresh =
      twice (open_to some) (λ i. x == i) (range_with_len 0 n)
      ∙ one_passes (λ i. not (is_among some i) && (x == i)) 0 n x (omega arith) (omega arith)
      (and_from _ _ (not_from_false _ fresh) (eq-eqb x x refl))
      (λ i ne. and_right (not (is_among some i)) _ (ne_eqb x i (λ e. ne (sym e))))

  pub all_there : (some : List ℕ) → All (λ k. k < n) some → IsDistinct some
      → IsPermutation (range_with_len 0 n) (some ++ left_of n some)
  all_there [] h d =
      subst (λ xs. IsPermutation (range_with_len 0 n) xs) (sym (all_pass (λ i. true) 0 n (λ i. refl))) (IsPermutation-refl _)
  all_there (x ∷ some) h d =
      let before = all_there some (All-tail (λ k. k < n) x some h) d.1 in
      let split = IsPermutation-filter_both (λ i. x == i) (λ i. not (x == i)) (λ i. refl) (left_of n some) in
      let parts : filter (λ i. x == i) (left_of n some) ++ filter (λ i. not (x == i)) (left_of n some) ≡ x ∷ left_of n (x ∷ some) =
      ap (λ xs. xs ++ filter (λ i. not (x == i)) (left_of n some)) (one_is x some (All-head (λ k. k < n) x some h) d.0)
      ∙ ap (λ xs. x ∷ xs) (rest_is x some) in
      let moved = IsPermutation-append_right some _ _ (subst (λ xs. IsPermutation (left_of n some) xs) parts split) in
      IsPermutation-trans _ _ _ before (IsPermutation-trans _ _ _ moved (IsPermutation-middle some x (left_of n (x ∷ some))))

  pub whole_length : (some : List ℕ) → All (λ k. k < n) some → IsDistinct some → length some + length (left_of n some) ≡ n
  whole_length some h d =
      sym (length-append some (left_of n some)) ∙ length_permutation _ _ (all_there some h d) ∙ length-range_with_len 0 n
