-- How long a section may be kept, and how many copies that is.
use Rattle.std.proofs.Common.{◌≡◌, ℕ, zero, suc, ◌+◌, ◌-◌, ◌*◌, ◌/◌, ◌<◌, ◌≤◌, max, true, false, inl, inr, sym, ◌∙◌, arith}
use Rattle.std.specs.Prelude.{nat_le}
use Rattle.std.proofs.lemmas.Bool.{cases_lt}
use Rattle.std.proofs.lemmas.Bool.Decides.{nat_tests}
use Rattle.std.proofs.lemmas.Nat.{le-div}
use Rattle.std.proofs.Math.Nat.{mul-le-mul_right, le_of_mul-le-mul_right, div-mul-le_self, lt-div-mul-add}
use Rattle.rail_model.specs.declared.items.Section.{Section}
use Rattle.plan_model.specs.Answer.{period, reduced, IsReduced}
use Rattle.plan_model.proofs.Reduced.{fraction_is_reduced}
use Rattle.path_fill.specs.Filling.{has_room}
use Rattle.path_fill.specs.Search.{filled_time}

-- ---- tests

yes : (a b : ℕ) → a ≤ b → nat_le a b ≡ true
yes a b l = grind (arith, nat_tests, l)

no : (a b : ℕ) → b < a → nat_le a b ≡ false
no a b l = grind (arith, nat_tests, l)

same_tests : (x y z w : ℕ) → (x ≤ y → z ≤ w) → (z ≤ w → x ≤ y) → nat_le x y ≡ nat_le z w
same_tests x y z w to from =
    elim (cases_lt w z) [
      | inr l ↦ yes x y (from l) ∙ sym (yes z w l)
      | inl l ↦
          elim (cases_lt y x) [
            | inl m ↦ no x y m ∙ sym (no z w l)
            | inr m ↦ absurd (omega (arith, l, to m))
          ]
    ]

-- ---- fractions

at_most_one : (p q a b : ℕ) → p * b ≡ a * q → 0 < q → p ≤ q → a ≤ b
at_most_one p q a b e some l =
    let times : p * b ≤ q * b = mul-le-mul_right b l in
    let is : q * b ≡ b * q = omega arith in
    let both : a * q ≤ b * q = omega (arith, times, e, is) in le_of_mul-le-mul_right both some

one_at_most : (p q a b : ℕ) → p * b ≡ a * q → 0 < b → a ≤ b → p ≤ q
one_at_most p q a b e some l =
    let times : a * q ≤ b * q = mul-le-mul_right q l in
    let is : q * b ≡ b * q = omega arith in
    let both : p * b ≤ q * b = omega (arith, times, e, is) in le_of_mul-le-mul_right both some

quotient_within : (t b d : ℕ) → t ≤ b / d → t * d ≤ b
quotient_within t b d l =
    let times : t * d ≤ b / d * d = mul-le-mul_right d l in
    omega (arith, times, div-mul-le_self b d)

-- the greatest occupancy time by which the consumption is at most 1
pub room_is : (section : Section) → section.from_s < section.to_s → (time : ℕ)
    → has_room section time ≡ nat_le time (100 * period section / (100 + section.add_percent))
room_is section window time =
    let d = 100 + section.add_percent in
    let a = time * d in
    let b = 100 * period section in
    let some : 0 < b = omega (arith, window) in
    let more : 0 < d = omega arith in
    let f = reduced a b in
    let is : IsReduced f a b = fraction_is_reduced a b some in
    same_tests f.num f.den time (b / d)
    (λ l. le-div time b d more (at_most_one f.num f.den a b is.equal is.some l))
    (λ l. one_at_most f.num f.den a b is.equal some (quotient_within time b d l))

-- ---- copies

-- so many copies, the first of which ends after a time, and each further one so much later
module _ (most first headway : ℕ) (some : 0 < headway) (room : first ≤ most) where
  abbrev pub copies : ℕ
  copies = (most - first) / headway + 1

  pub within : (more : ℕ) → more < copies → first + more * headway ≤ most
  within more l =
      let times = quotient_within more (most - first) headway (omega (arith, l)) in
      omega (arith, times, room)

  pub past : (more : ℕ) → copies ≤ more → most < first + more * headway
  past more l =
      let q = (most - first) / headway in
      let after : most - first < q * headway + headway = lt-div-mul-add some in
      let times : (q + 1) * headway ≤ more * headway = mul-le-mul_right headway l in
      let is : (q + 1) * headway ≡ q * headway + headway = omega arith in
      omega (arith, after, times, is, room)

  pub few : copies * headway ≤ most + headway
  few =
      let q = (most - first) / headway in
      let is : (q + 1) * headway ≡ q * headway + headway = omega arith in
      omega (arith, is, div-mul-le_self (most - first) headway)

module _ (section : Section) (alone first headway most copies : ℕ)
    (room : (time : ℕ) → has_room section time ≡ nat_le time most) (below : alone ≤ most)
    (within : (more : ℕ) → more < copies → first + more * headway ≤ most)
    (past : (more : ℕ) → copies ≤ more → most < first + more * headway) where
  pub fit : (count : ℕ) → count ≤ copies → has_room section (filled_time alone first headway count) ≡ true
  fit zero l = room alone ∙ yes alone most below
  fit (suc more) l =
      let time = max alone (first + more * headway) in
      room time ∙ yes time most (omega (arith, below, within more (omega (arith, l))))

  pub over : (count : ℕ) → copies < count → has_room section (filled_time alone first headway count) ≡ false
  over zero l = absurd (omega (arith, l))
  over (suc more) l =
      let time = max alone (first + more * headway) in
      room time ∙ no time most (omega (arith, past more (omega (arith, l))))

pub no_room : (section : Section) (alone most : ℕ) → ((time : ℕ) → has_room section time ≡ nat_le time most)
    → most < alone → has_room section alone ≡ false
no_room section alone most room l = room alone ∙ no alone most l
