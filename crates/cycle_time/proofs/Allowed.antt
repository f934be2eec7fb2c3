-- The least period that a ring allows.
use Rattle.std.proofs.Common.{◌≡◌, ℕ, zero, suc, ◌+◌, ◌*◌, ◌<◌, ◌≤◌, List, [], ◌∷◌, length, take, get_or, inl, inr, sym, ap, subst, arith}
use Rattle.std.specs.Prelude.{ℤ, pos, ◌+ℤ◌, ◌-ℤ◌, ◌*ℤ◌, ◌≤ℤ◌, ◌<ℤ◌}
use Rattle.std.proofs.lemmas.Bool.{cases_lt}
use Rattle.std.proofs.lemmas.Int.{ints}
use Rattle.std.proofs.lemmas.List.{take_more}
use Rattle.cycle_time.specs.declared.demand.Demand.{Demand}
use Rattle.cycle_time.specs.Rings.{no_demand, weights, laps}
use Rattle.cycle_time.proofs.Refused.{nat_times, mono}
use Rattle.cycle_time.proofs.Turned.{weights_append}

pub weights_more : (demands : List Demand) (k : ℕ) → k < length demands
    → weights (take (k + 1) demands) ≡ (weights (take k demands) +ℤ (get_or demands k no_demand).weight)
weights_more demands k l =
    let more = ap weights (take_more demands k no_demand l) in
    let split = weights_append (take k demands) (get_or demands k no_demand ∷ []) in
    omega (arith, ints, more, split)

-- the quotient, rounded up: it is enough, and one less isn't
pub enough : (laps result sum : ℕ) (w : ℤ) → w ≡ pos sum → sum ≤ result * laps → w ≤ℤ (pos laps *ℤ pos result)
enough laps result sum w is most =
    let n = nat_times laps result in
    let c : laps * result ≡ result * laps = omega arith in
    omega (arith, ints, is, n, c, most)

pub not_less : (laps result sum : ℕ) (w : ℤ) → w ≡ pos sum → 0 < sum → 0 < laps → sum ≤ result * laps → result * laps < sum + laps
    → (pos laps *ℤ (pos result -ℤ pos 1)) <ℤ w
not_less laps zero sum w is some l most less = absurd (omega (arith, some, most))
not_less laps (suc result) sum w is some l most less =
    let e : pos (suc result) -ℤ pos 1 ≡ pos result = omega (arith, ints) in
    let h : laps * result < sum = omega (arith, less) in
    subst (λ k. (pos laps *ℤ k) <ℤ w) (sym e) (let n = nat_times laps result in omega (arith, ints, is, n, h))

-- a ring that refuses a period allows only a greater one
pub greater : (laps period result : ℕ) (w : ℤ) → (pos laps *ℤ pos period) <ℤ w → w ≤ℤ (pos laps *ℤ pos result) → period < result
greater laps period result w more most =
    elim (cases_lt period result) [
      | inl l ↦ l
      | inr le ↦
          let a = nat_times laps period in
          let b = nat_times laps result in
          let c = mono laps result period le in
          absurd (omega (arith, ints, more, most, a, b, c))
    ]
