-- The first bits of words, and the first members of sets, also of those that aren't in another set.
use Rattle.std.proofs.Common.{◌≡◌, ℕ, ◌+◌, ◌-◌, ◌*◌, ◌/◌, ◌%◌, ◌^◌, ◌<◌, ◌≤◌, ◌==◌, ◌&&◌, true, false, not, List, get_or, inl, inr, refl, sym, ap, ◌∙◌, arith, w64}
use Rattle.std.specs.Int.{bit_at, trailing_zeros}
use Rattle.std.proofs.lemmas.Bool.{cases_Bool, cases_lt, and_parts, and_from, eq-eqb, ne_eqb, both_ways, not-true, not_from_false}
use Rattle.std.proofs.lemmas.Nat.{shr-shr, shr_le}
use Rattle.std.proofs.lemmas.Nat.Bits.{bit_at-trailing_zeros, bit_at-zero, bit_at_above}
use Rattle.plan_model.specs.declared.limits.TheConstants.{MEMBERS}
use Rattle.train_order.specs.Sets.{IsFirstBit, IsFirstMember, IsFirstOutside, holds}

-- ---- bits

bit_of_rest : (word from i : ℕ) → from ≤ i → bit_at word i ≡ bit_at (word / 2 ^ from) (i - from)
bit_of_rest word from i l =
    let e : from + (i - from) ≡ i = omega arith in
    sym (ap (λ n. n % 2) (shr-shr word from (i - from)) ∙ ap (bit_at word) e)

pub first_bit : (word from : ℕ) → word < 2 ^ 64 → 0 < word / 2 ^ from
    → IsFirstBit word from (from + trailing_zeros w64 (word / 2 ^ from))
first_bit word from fits some =
    let rest = word / 2 ^ from in
    let low = bit_at-trailing_zeros w64 rest some (omega (arith, shr_le word from)) in
    let found = from + trailing_zeros w64 rest in
    let at : found - from ≡ trailing_zeros w64 rest = omega arith in
    let one : bit_at word found ≡ 1 = bit_of_rest word from found (omega arith) ∙ ap (bit_at rest) at ∙ low.1 in
    record {
      within = elim (cases_lt found 64) [
        | inl l ↦ omega arith
        | inr l ↦ omega (arith, one, bit_at_above word 64 found fits l)
      ];
      from_on = omega arith;
      none = λ i li lf. bit_of_rest word from i li ∙ low.2 (i - from) (omega arith);
      there = λ l. one;
    }

pub no_bit : (word from : ℕ) → from ≤ 64 → word / 2 ^ from ≡ 0 → IsFirstBit word from 64
no_bit word from l e = record {
  within = omega arith;
  from_on = l;
  none = λ i li lf. bit_of_rest word from i li ∙ ap (λ n. bit_at n (i - from)) e ∙ bit_at-zero (i - from);
  there = λ lf. absurd (omega arith);
}

-- ---- members

holds_at : (words : List ℕ) (place bit k : ℕ) → k ≡ 64 * place + bit → bit < 64
    → holds words k ≡ (bit_at (get_or words place 0) bit == 1)
holds_at words place bit k e l =
    let d : k / 64 ≡ place = omega arith in
    let m : k % 64 ≡ bit = omega arith in
    rw (d, m) refl

module _ (words : List ℕ) (place from bit : ℕ) (first : IsFirstBit (get_or words place 0) from bit) where
  pub none_in_word : (k : ℕ) → 64 * place + from ≤ k → k < 64 * place + bit → holds words k ≡ false
  none_in_word k lk lb =
      let some : bit_at (get_or words place 0) (k - 64 * place) ≡ 0 = first.none (k - 64 * place) (omega arith) (omega arith) in
      holds_at words place (k - 64 * place) k (omega arith) (omega (arith, first.within)) ∙ ne_eqb _ 1 (λ e. omega (arith, e, some))

  pub first_in_word : bit < 64 → IsFirstMember words (64 * place + from) (64 * place + bit)
  first_in_word l = record {
    from_on = omega (arith, first.from_on);
    none = none_in_word;
    there = λ lf. holds_at words place bit (64 * place + bit) refl l ∙ eq-eqb _ 1 (first.there l);
  }

pub first_later : (words : List ℕ) (from later found : ℕ) → from ≤ later
    → ((k : ℕ) → from ≤ k → k < later → holds words k ≡ false) → IsFirstMember words later found
    → IsFirstMember words from found
first_later words from later found l none first = record {
  from_on = omega (arith, first.from_on);
  none = λ k lk lf. elim (cases_lt k later) [
    | inl a ↦ none k lk a
    | inr b ↦ first.none k b lf
  ];
  there = first.there;
}

pub first_past : (words : List ℕ) (from found : ℕ) → MEMBERS ≤ found → from ≤ found
    → ((k : ℕ) → from ≤ k → k < found → holds words k ≡ false) → IsFirstMember words from found
first_past words from found l lf none = record { from_on = lf; none = none; there = λ b. absurd (omega arith) }

-- ---- members that aren't in another set

module _ (words others : List ℕ) (place rest bit : ℕ)
    (without : (i : ℕ) → i < 64 → (bit_at rest i == 1) ≡ ((bit_at (get_or words place 0) i == 1) && not (bit_at (get_or others place 0) i == 1)))
    (first : IsFirstBit rest 0 bit) where
  rest_at : (k i : ℕ) → k ≡ 64 * place + i → i < 64 → (bit_at rest i == 1) ≡ (holds words k && not (holds others k))
  rest_at k i e l =
      without i l ∙ ap (λ b. b && not (bit_at (get_or others place 0) i == 1)) (sym (holds_at words place i k e l))
      ∙ ap (λ b. holds words k && not b) (sym (holds_at others place i k e l))

  pub both_in_word : (k : ℕ) → 64 * place ≤ k → k < 64 * place + bit → holds words k ≡ true → holds others k ≡ true
  both_in_word k lk lb h =
      let i = k - 64 * place in
      let none : (bit_at rest i == 1) ≡ false = ne_eqb _ 1 (λ e. omega (arith, e, first.none i (omega arith) (omega arith))) in
      let whole = rest_at k i (omega arith) (omega (arith, first.within)) in
      elim (cases_Bool (holds others k)) [
        | inl e ↦ e
        | inr e ↦ absurd (both_ways _ none (whole ∙ and_from _ _ h (not_from_false _ e)))
      ]

  pub outside_in_word : ((k : ℕ) → k < 64 * place → holds words k ≡ true → holds others k ≡ true) → bit < 64
      → IsFirstOutside words others (64 * place + bit)
  outside_in_word before l =
      let both = and_parts (holds words (64 * place + bit)) _ (sym (rest_at (64 * place + bit) bit refl l) ∙ eq-eqb _ 1 (first.there l)) in
      record {
        none = λ k lk h. elim (cases_lt k (64 * place)) [ inl a ↦ before k a h | inr b ↦ both_in_word k b lk h ];
        there = λ lf. both.0;
        outside = λ lf. not-true _ both.1;
      }
