-- The least and the greatest of what a function gives of some numbers.
use Rattle.std.proofs.Common.{◌≡◌, ℕ, ◌≤◌, max, true, List, [], ◌∷◌, map, inl, inr, refl, subst, arith}
use Rattle.std.specs.Prelude.{ℤ, ◌≤ℤ◌, ◌==◌, fold}
use Rattle.std.specs.Int.{int_min, int_max}
use Rattle.std.proofs.lemmas.Bool.{or_cases, or_left, or_right, eqb-true, eq-eqb}
use Rattle.std.proofs.lemmas.Int.{ints}
use Rattle.plan_model.specs.Cut.{least}
use Rattle.plan_model.specs.Answer.{greatest}
use Rattle.plan_model.proofs.MemberTests.{has}

-- ---- along a fold

max_above : (f : ℕ → ℤ) (a : ℤ) (some : List ℕ) → a ≤ℤ fold int_max a (map f some)
max_above f a [] = omega (arith, ints)
max_above f a (k ∷ some) =
    let here : a ≤ℤ int_max a (f k) = grind (arith, ints) in
    let rest = max_above f (int_max a (f k)) some in
    omega (arith, ints, here, rest)

max_above_each : (f : ℕ → ℤ) (a : ℤ) (some : List ℕ) (i : ℕ) → has some i ≡ true → f i ≤ℤ fold int_max a (map f some)
max_above_each f a [] i h = absurd (cc)
max_above_each f a (k ∷ some) i h =
    elim (or_cases (k == i) (has some i) h) [
      | inl e ↦
          let here : f k ≤ℤ int_max a (f k) = grind (arith, ints) in
          let rest = max_above f (int_max a (f k)) some in
          subst (λ m. f m ≤ℤ fold int_max (int_max a (f k)) (map f some)) (eqb-true k i e)
          (omega (arith, ints, here, rest))
      | inr e ↦ max_above_each f (int_max a (f k)) some i e
    ]

max_within : (f : ℕ → ℤ) (a z : ℤ) (some : List ℕ) → a ≤ℤ z → ((i : ℕ) → has some i ≡ true → f i ≤ℤ z)
    → fold int_max a (map f some) ≤ℤ z
max_within f a z [] h each = h
max_within f a z (k ∷ some) h each =
    let first : f k ≤ℤ z = each k (or_left (k == k) (has some k) (eq-eqb k k refl)) in
    let here : int_max a (f k) ≤ℤ z = grind (arith, ints) in
    max_within f (int_max a (f k)) z some here (λ i e. each i (or_right (k == i) (has some i) e))

min_below : (f : ℕ → ℤ) (a : ℤ) (some : List ℕ) → fold int_min a (map f some) ≤ℤ a
min_below f a [] = omega (arith, ints)
min_below f a (k ∷ some) =
    let here : int_min a (f k) ≤ℤ a = grind (arith, ints) in
    let rest = min_below f (int_min a (f k)) some in
    omega (arith, ints, here, rest)

min_below_each : (f : ℕ → ℤ) (a : ℤ) (some : List ℕ) (i : ℕ) → has some i ≡ true → fold int_min a (map f some) ≤ℤ f i
min_below_each f a [] i h = absurd (cc)
min_below_each f a (k ∷ some) i h =
    elim (or_cases (k == i) (has some i) h) [
      | inl e ↦
          let here : int_min a (f k) ≤ℤ f k = grind (arith, ints) in
          let rest = min_below f (int_min a (f k)) some in
          subst (λ m. fold int_min (int_min a (f k)) (map f some) ≤ℤ f m) (eqb-true k i e)
          (omega (arith, ints, here, rest))
      | inr e ↦ min_below_each f (int_min a (f k)) some i e
    ]

min_within : (f : ℕ → ℤ) (a z : ℤ) (some : List ℕ) → z ≤ℤ a → ((i : ℕ) → has some i ≡ true → z ≤ℤ f i)
    → z ≤ℤ fold int_min a (map f some)
min_within f a z [] h each = h
min_within f a z (k ∷ some) h each =
    let first : z ≤ℤ f k = each k (or_left (k == k) (has some k) (eq-eqb k k refl)) in
    let here : z ≤ℤ int_min a (f k) = grind (arith, ints) in
    min_within f (int_min a (f k)) z some here (λ i e. each i (or_right (k == i) (has some i) e))

nat_above : (f : ℕ → ℕ) (a : ℕ) (some : List ℕ) → a ≤ fold max a (map f some)
nat_above f a [] = omega arith
nat_above f a (k ∷ some) = let rest = nat_above f (max a (f k)) some in omega (arith, rest)

nat_above_each : (f : ℕ → ℕ) (a : ℕ) (some : List ℕ) (i : ℕ) → has some i ≡ true → f i ≤ fold max a (map f some)
nat_above_each f a [] i h = absurd (cc)
nat_above_each f a (k ∷ some) i h =
    elim (or_cases (k == i) (has some i) h) [
      | inl e ↦
          let rest = nat_above f (max a (f k)) some in
          subst (λ m. f m ≤ fold max (max a (f k)) (map f some)) (eqb-true k i e) (omega (arith, rest))
      | inr e ↦ nat_above_each f (max a (f k)) some i e
    ]

nat_within : (f : ℕ → ℕ) (a z : ℕ) (some : List ℕ) → a ≤ z → ((i : ℕ) → has some i ≡ true → f i ≤ z)
    → fold max a (map f some) ≤ z
nat_within f a z [] h each = h
nat_within f a z (k ∷ some) h each =
    let first : f k ≤ z = each k (or_left (k == k) (has some k) (eq-eqb k k refl)) in
    nat_within f (max a (f k)) z some (omega (arith, h, first)) (λ i e. each i (or_right (k == i) (has some i) e))

-- ---- of a list

pub above_each : (f : ℕ → ℤ) (some : List ℕ) (i : ℕ) → has some i ≡ true → f i ≤ℤ greatest (map f some)
above_each f [] i h = absurd (cc)
above_each f (k ∷ some) i h =
    elim (or_cases (k == i) (has some i) h) [
      | inl e ↦ subst (λ m. f m ≤ℤ fold int_max (f k) (map f some)) (eqb-true k i e) (max_above f (f k) some)
      | inr e ↦ max_above_each f (f k) some i e
    ]

pub greatest_within : (f : ℕ → ℤ) (z : ℤ) (some : List ℕ) (one : ℕ) → has some one ≡ true
    → ((i : ℕ) → has some i ≡ true → f i ≤ℤ z) → greatest (map f some) ≤ℤ z
greatest_within f z [] one h each = absurd (cc)
greatest_within f z (k ∷ some) one h each =
    max_within f (f k) z some (each k (or_left (k == k) (has some k) (eq-eqb k k refl)))
    (λ i e. each i (or_right (k == i) (has some i) e))

pub below_each : (f : ℕ → ℤ) (some : List ℕ) (i : ℕ) → has some i ≡ true → least (map f some) ≤ℤ f i
below_each f [] i h = absurd (cc)
below_each f (k ∷ some) i h =
    elim (or_cases (k == i) (has some i) h) [
      | inl e ↦ subst (λ m. fold int_min (f k) (map f some) ≤ℤ f m) (eqb-true k i e) (min_below f (f k) some)
      | inr e ↦ min_below_each f (f k) some i e
    ]

pub least_within : (f : ℕ → ℤ) (z : ℤ) (some : List ℕ) (one : ℕ) → has some one ≡ true
    → ((i : ℕ) → has some i ≡ true → z ≤ℤ f i) → z ≤ℤ least (map f some)
least_within f z [] one h each = absurd (cc)
least_within f z (k ∷ some) one h each =
    min_within f (f k) z some (each k (or_left (k == k) (has some k) (eq-eqb k k refl)))
    (λ i e. each i (or_right (k == i) (has some i) e))

pub longest_above : (f : ℕ → ℕ) (some : List ℕ) (i : ℕ) → has some i ≡ true → f i ≤ fold max 0 (map f some)
longest_above f some i h = nat_above_each f 0 some i h

pub longest_within : (f : ℕ → ℕ) (z : ℕ) (some : List ℕ) → ((i : ℕ) → has some i ≡ true → f i ≤ z)
    → fold max 0 (map f some) ≤ z
longest_within f z some each = nat_within f 0 z some (omega arith) each
