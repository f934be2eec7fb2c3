-- What entries keep, by their distance and by their moments: one train ends its use at e and the other starts at s, planned
-- to enter at ei and ej; they enter at x and y; t is the period.
use Rattle.std.proofs.Common.{arith}
use Rattle.std.specs.Prelude.{ℤ, ◌+ℤ◌, ◌-ℤ◌, ◌≤ℤ◌}
use Rattle.std.proofs.lemmas.Int.{ints}

pub by_moments : (e s ei ej x y : ℤ) → (x +ℤ ((e -ℤ ei) -ℤ (s -ℤ ej))) ≤ℤ y → (e -ℤ ei +ℤ x) ≤ℤ (s -ℤ ej +ℤ y)
by_moments e s ei ej x y h = omega (arith, ints)

pub by_weight : (e s ei ej x y : ℤ) → (e -ℤ ei +ℤ x) ≤ℤ (s -ℤ ej +ℤ y) → (x +ℤ ((e -ℤ ei) -ℤ (s -ℤ ej))) ≤ℤ y
by_weight e s ei ej x y h = omega (arith, ints)

pub by_moments_again : (e s ei ej x y t : ℤ) → (x +ℤ ((e -ℤ ei) -ℤ (s -ℤ ej) -ℤ t)) ≤ℤ y
    → (e -ℤ ei +ℤ x) ≤ℤ (s -ℤ ej +ℤ y +ℤ t)
by_moments_again e s ei ej x y t h = omega (arith, ints)

pub by_weight_again : (e s ei ej x y t : ℤ) → (e -ℤ ei +ℤ x) ≤ℤ (s -ℤ ej +ℤ y +ℤ t)
    → (x +ℤ ((e -ℤ ei) -ℤ (s -ℤ ej) -ℤ t)) ≤ℤ y
by_weight_again e s ei ej x y t h = omega (arith, ints)
