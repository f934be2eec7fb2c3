-- Dividing both parts by their greatest common divisor reduces a fraction.
use Rattle.std.proofs.Common.{◌≡◌, ℕ, zero, suc, ◌*◌, ◌/◌, ◌%◌, ◌<◌, ◌≤◌, refl, sym, ap, subst, ◌∙◌, ◌+◌, ◌-◌, arith}
use Rattle.std.specs.Int.{IsGcd, ◌∣◌}
use Rattle.std.proofs.Math.Nat.{mul-sub, mul-div-mul_left, mod-eq-sub-mul-div, div-eq_of_eq-mul_left, eq_of_mul-eq-mul_left, one-dvd, dvd-mul_left, mul-dvd-mul_left, dvd_of_mul-dvd-mul_left, mul-div_cancel', pos_of_dvd_of_pos}
use Rattle.std.proofs.lemmas.Nat.Gcd.{IsGcd-from_zero, IsGcd-from_mod, same_from_IsGcd}
use Rattle.plan_model.specs.Answer.{common_divisor}
use Rattle.plan_model.specs.Laws.{FractionIsReduced, ReducedIsUnique}

-- the divisions find the greatest common divisor
pub common_divisor_is : (n a b : ℕ) → b ≤ n → IsGcd a b (common_divisor n a b)
common_divisor_is zero a b l = IsGcd-from_zero a b (omega arith)
common_divisor_is (suc n) a zero l = IsGcd-from_zero a zero refl
common_divisor_is (suc n) a (suc b) l =
    IsGcd-from_mod a (suc b) _ (common_divisor_is n (suc b) (a % suc b) (omega arith))

crosswise : (g p q a b : ℕ) → g * p ≡ a → g * q ≡ b → p * b ≡ a * q
crosswise g p q a b e f = rw (← e, ← f) (omega arith)

-- a divisor of both quotients, times g, divides both numbers, and so g
lowest : (g p q a b : ℕ) → 0 < g → g * p ≡ a → g * q ≡ b → IsGcd a b g → IsGcd p q 1
lowest g p q a b some e f h = (
  one-dvd p,
  one-dvd q,
  λ d dp dq.
      let da : g * d ∣ a = subst (λ x. g * d ∣ x) e (mul-dvd-mul_left d g dp) in
      let db : g * d ∣ b = subst (λ x. g * d ∣ x) f (mul-dvd-mul_left d g dq) in
      let one : g ≡ g * 1 = omega arith in
      dvd_of_mul-dvd-mul_left d some (subst (λ x. g * d ∣ x) one (h.2 (g * d) da db)),
)

pub fraction_is_reduced : FractionIsReduced
fraction_is_reduced a b pos =
    let g = common_divisor b a b in
    let h = common_divisor_is b a b (omega arith) in
    let some : 0 < g = pos_of_dvd_of_pos h.1 pos in
    let e : g * (a / g) ≡ a = mul-div_cancel' g h.0 in
    let f : g * (b / g) ≡ b = mul-div_cancel' g h.1 in
    record {
      equal = crosswise g (a / g) (b / g) a b e f;
      some = pos_of_dvd_of_pos (subst (λ x. b / g ∣ x) f (dvd-mul_left (b / g) g)) pos;
      lowest = lowest g (a / g) (b / g) a b some e f h;
    }

-- ---- the one reduced fraction

mod_scaled : (k a b : ℕ) → 0 < k → (k * a) % (k * b) ≡ k * (a % b)
mod_scaled k a b some =
    let product : k * b * (a / b) ≡ k * (b * (a / b)) = omega arith in
    mod-eq-sub-mul-div (k * a) (k * b) ∙ ap (λ q. k * a - k * b * q) (mul-div-mul_left a b some)
    ∙ ap (λ x. k * a - x) product ∙ sym (mul-sub k a (b * (a / b))) ∙ ap (λ r. k * r) (sym (mod-eq-sub-mul-div a b))

step : (n a b : ℕ) → 0 < b → common_divisor (suc n) a b ≡ common_divisor n b (a % b)
step n a zero some = absurd (omega (arith, some))
step n a (suc b) some = refl

-- the greatest common divisor of multiples is the multiple of that of the numbers
scaled : (n k a b : ℕ) → 0 < k → common_divisor n (k * a) (k * b) ≡ k * common_divisor n a b
scaled zero k a b some = refl
scaled (suc n) k a zero some = let none : k * 0 ≡ 0 = omega arith in rw (none) refl
scaled (suc n) k a (suc b) some =
    let more : 0 < k * suc b = omega (arith, some) in
    step n (k * a) (k * suc b) more ∙ ap (λ r. common_divisor n (k * suc b) r) (mod_scaled k a (suc b) some)
    ∙ scaled n k (suc b) (a % suc b) some

IsGcd-scaled : (k a b g : ℕ) → 0 < k → IsGcd a b g → IsGcd (k * a) (k * b) (k * g)
IsGcd-scaled k a b g some h =
    let n = k * b + b in
    let e : common_divisor n a b ≡ g = same_from_IsGcd a b _ g (common_divisor_is n a b (omega arith)) h in
    subst (λ d. IsGcd (k * a) (k * b) d) (scaled n k a b some ∙ ap (λ d. k * d) e)
    (common_divisor_is n (k * a) (k * b) (omega arith))

-- with p over q reduced, b is q times the greatest common divisor
den_is : (p q a b g : ℕ) → 0 < b → 0 < q → p * b ≡ a * q → IsGcd p q 1 → IsGcd a b g → g * q ≡ b
den_is p q a b g some more e one h =
    let left : IsGcd (b * p) (b * q) (b * 1) = IsGcd-scaled b p q 1 some one in
    let right : IsGcd (q * a) (q * b) (q * g) = IsGcd-scaled q a b g more h in
    let first : q * a ≡ b * p = omega (arith, e) in
    let second : q * b ≡ b * q = omega arith in
    let same : IsGcd (b * p) (b * q) (q * g) =
    subst (λ x. IsGcd x (b * q) (q * g)) first (subst (λ y. IsGcd (q * a) y (q * g)) second right) in
    let multiple : q * g ≡ b * 1 = same_from_IsGcd (b * p) (b * q) (q * g) (b * 1) same left in omega (arith, multiple)

num_is : (p q a b g : ℕ) → 0 < b → p * b ≡ a * q → g * q ≡ b → g * p ≡ a
num_is p q a b g some e f =
    let first : g * (p * b) ≡ g * (a * q) = ap (λ x. g * x) e in
    let second : a * (g * q) ≡ a * b = ap (λ x. a * x) f in
    eq_of_mul-eq-mul_left b some (g * p) a (omega (arith, first, second))

pub reduced_is_unique : ReducedIsUnique
reduced_is_unique a b f some h =
    let g = common_divisor b a b in
    let d = common_divisor_is b a b (omega arith) in
    let positive : 0 < g = pos_of_dvd_of_pos d.1 some in
    let den : g * f.den ≡ b = den_is f.num f.den a b g some h.some h.equal h.lowest d in
    let num : g * f.num ≡ a = num_is f.num f.den a b g some h.equal den in
    let times_num : a ≡ f.num * g = omega (arith, num) in
    let times_den : b ≡ f.den * g = omega (arith, den) in
    let n : f.num ≡ a / g = sym (div-eq_of_eq-mul_left positive times_num) in
    let m : f.den ≡ b / g = sym (div-eq_of_eq-mul_left positive times_den) in
    λ i. record { num = n i; den = m i }
