-- Whole numbers: their order, and the tests of it.
use Rattle.std.proofs.Common.{◌≡◌, ℕ, true, false, List, refl, sym, inl, inr, arith}
use Rattle.std.specs.Prelude.{ℤ, ◌<ℤ◌, ◌≤ℤ◌, int_lt, int_le, fold, ◌==◌}
use Rattle.std.specs.Int.{int_min}
use Rattle.std.proofs.lemmas.Bool.{cases_Bool, both_ways, false_from_ne_true, eqb-true, eq-eqb}
use Rattle.std.proofs.lemmas.Int.{ints, fold-int_min_bounds}

-- ---- the order

pub le_both_ways : (s t : ℤ) → s ≤ℤ t → t ≤ℤ s → s ≡ t
le_both_ways s t p q = omega (arith, ints, p, q)

pub le_from_lt : (s t : ℤ) → s <ℤ t → s ≤ℤ t
le_from_lt s t h = omega (arith, ints)

pub le_from_same : (s t : ℤ) → s ≡ t → s ≤ℤ t
le_from_same s t h = omega (arith, ints)

pub lt_not_same : (s t : ℤ) → s <ℤ t → s ≡ t → ⊥
lt_not_same s t h e = omega (arith, ints)

pub lt_through : (s t u : ℤ) → s ≤ℤ t → t <ℤ u → s <ℤ u
lt_through s t u p q = omega (arith, ints)

-- ---- tests

pub lt_from_test : (s t : ℤ) → int_lt s t ≡ true → s <ℤ t
lt_from_test s t h = grind (arith, ints)

pub test_from_lt : (s t : ℤ) → s <ℤ t → int_lt s t ≡ true
test_from_lt s t h = grind (arith, ints)

pub le_from_not_lt : (s t : ℤ) → int_lt s t ≡ false → t ≤ℤ s
le_from_not_lt s t h = grind (arith, ints)

pub not_lt_from_le : (s t : ℤ) → t ≤ℤ s → int_lt s t ≡ false
not_lt_from_le s t h = grind (arith, ints)

pub le_from_test : (s t : ℤ) → int_le s t ≡ true → s ≤ℤ t
le_from_test s t h = grind (arith, ints)

pub test_from_le : (s t : ℤ) → s ≤ℤ t → int_le s t ≡ true
test_from_le s t h = grind (arith, ints)

-- of two numbers of which neither is less, both are the same
pub same_if_neither_less : (s t : ℤ) → int_lt s t ≡ false → int_lt t s ≡ false → s ≡ t
same_if_neither_less s t p q = grind (arith, ints)

pub eqb-sym : (a b : ℕ) → (a == b) ≡ (b == a)
eqb-sym a b =
    elim (cases_Bool (a == b)) [
      | inl e ↦ rw (e, eq-eqb b a (sym (eqb-true a b e))) refl
      | inr e ↦ rw (e, false_from_ne_true (b == a) (λ t. both_ways (a == b) e (eq-eqb a b (sym (eqb-true b a t))))) refl
    ]

-- ---- the least

pub least_most : (x : ℤ) (xs : List ℤ) → fold int_min x xs ≤ℤ x
least_most x xs = (fold-int_min_bounds x xs (fold int_min x xs) refl).0
