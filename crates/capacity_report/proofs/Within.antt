-- A consumption that isn't reduced is at most 1 where the reduced one is.
use Rattle.std.proofs.Common.{◌≡◌, ℕ, ◌*◌, ◌<◌, ◌≤◌, nat_le, sym, arith}
use Rattle.std.proofs.Math.Nat.{le_of_mul-le-mul_left, mul-le-mul_left}
use Rattle.std.proofs.lemmas.Bool.Decides.{nat_tests}
use Rattle.plan_model.specs.Answer.{Fraction, IsReduced, reduced, is_within}
use Rattle.plan_model.proofs.Reduced.{fraction_is_reduced}

up : (a b n d : ℕ) → 0 < b → n * b ≡ a * d → a ≤ b → n ≤ d
up a b n d some equal le = le_of_mul-le-mul_left (let more : d * a ≤ d * b = mul-le-mul_left d le in omega (arith, more, equal)) some

within : (a b : ℕ) (f : Fraction) → 0 < b → IsReduced f a b → is_within f ≡ nat_le a b
within a b f some is =
    let there : a ≤ b → f.num ≤ f.den = up a b f.num f.den some is.equal in
    let back : f.num ≤ f.den → a ≤ b = up f.num f.den a b is.some (sym is.equal) in
    grind (arith, nat_tests, there, back)

pub within_is : (a b : ℕ) → 0 < b → nat_le a b ≡ is_within (reduced a b)
within_is a b some = sym (within a b (reduced a b) some (fraction_is_reduced a b some))
