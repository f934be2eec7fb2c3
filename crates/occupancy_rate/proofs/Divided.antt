-- Both parts of a fraction divided by their greatest common divisor.
use Rattle.std.proofs.Common.{◌≡◌, ℕ, ◌<◌, ◌/◌, sym, ap, subst, arith}
use Rattle.std.specs.Int.{IsGcd}
use Rattle.std.proofs.Math.Nat.{pos_of_dvd_of_pos}
use Rattle.std.proofs.lemmas.Nat.Gcd.{same_from_IsGcd}
use Rattle.plan_model.specs.Answer.{Fraction, reduced, IsReduced, common_divisor}
use Rattle.plan_model.proofs.Reduced.{common_divisor_is, fraction_is_reduced}

abbrev pub divided : ℕ → ℕ → ℕ → Fraction
divided a b g = record { num = a / g; den = b / g }

pub divisor_is : (a b g : ℕ) → IsGcd a b g → common_divisor b a b ≡ g
divisor_is a b g h = same_from_IsGcd a b (common_divisor b a b) g (common_divisor_is b a b (omega arith)) h

pub divided_is : (a b g : ℕ) → IsGcd a b g → divided a b g ≡ reduced a b
divided_is a b g h = ap (divided a b) (sym (divisor_is a b g h))

pub is_reduced : (a b g : ℕ) → 0 < b → IsGcd a b g → IsReduced (divided a b g) a b
is_reduced a b g some h = subst (λ f. IsReduced f a b) (sym (divided_is a b g h)) (fraction_is_reduced a b some)

pub divisor_positive : (a b g : ℕ) → 0 < b → IsGcd a b g → 0 < g
divisor_positive a b g some h = pos_of_dvd_of_pos h.1 some
