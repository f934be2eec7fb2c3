-- Sets of keys whose words change.
use Rattle.std.proofs.Common.{◌≡◌, ◌≢◌, ℕ, ◌+◌, ◌-◌, ◌*◌, ◌/◌, ◌%◌, ◌^◌, ◌<◌, ◌≤◌, ◌==◌, min, max, true, false, not, cond, List, length, get_or, refl, sym, ap, ◌∙◌, inl, inr, arith, w64}
use Rattle.std.specs.Prelude.{◌&&◌, ◌||◌, nat_lt, bit_and, bit_or}
use Rattle.std.specs.Int.{bit_at, bit_not, trailing_zeros}
use Rattle.std.proofs.Math.ListN.{set}
use Rattle.std.proofs.lemmas.Bool.{cases_Bool, cases_lt, eqb-true, eq-eqb, both_ways}
use Rattle.std.proofs.lemmas.Bool.Decides.{nat_tests}
use Rattle.std.proofs.lemmas.List.{get_or-set_same, get_or-set_other, get_or_past}
use Rattle.std.proofs.lemmas.Nat.Bits.{bit_at_and, bit_at_or, bit_at_not, bit_at-zero, bit_at-lt, bit_at-trailing_zeros}
use Rattle.std.proofs.Math.Bool.{and-false, and_comm}
use Rattle.line_tables.specs.KeySet.{holds, Meets, KeepsApart}

-- ---- one bit of a word

greater_bit : (x y : ℕ) → x < 2 → y < 2 → (max x y == 1) ≡ ((y == 1) || (x == 1))
greater_bit x y a b = grind (arith, nat_tests)

less_bit : (x y : ℕ) → x < 2 → y < 2 → (min x y == 1) ≡ ((x == 1) && (y == 1))
less_bit x y a b = grind (arith, nat_tests)

flipped_bit : (x : ℕ) → x < 2 → (1 - x == 1) ≡ not (x == 1)
flipped_bit x a = grind (arith, nat_tests)

joined_bit : (a b i : ℕ) → (bit_at (bit_or a b) i == 1) ≡ ((bit_at b i == 1) || (bit_at a i == 1))
joined_bit a b i = rw (bit_at_or a b i) (greater_bit (bit_at a i) (bit_at b i) (bit_at-lt a i) (bit_at-lt b i))

shared_bit : (a b i : ℕ) → (bit_at (bit_and a b) i == 1) ≡ ((bit_at a i == 1) && (bit_at b i == 1))
shared_bit a b i = rw (bit_at_and a b i) (less_bit (bit_at a i) (bit_at b i) (bit_at-lt a i) (bit_at-lt b i))

parted_bit : (a b i : ℕ) → b < 2 ^ 64 → i < 64 → (bit_at (bit_and a (bit_not w64 b)) i == 1) ≡ (not (bit_at b i == 1) && (bit_at a i == 1))
parted_bit a b i fits l =
    shared_bit a (bit_not w64 b) i
    ∙ ap (λ q. (bit_at a i == 1) && q) (ap (λ x. x == 1) (bit_at_not w64 b i fits l) ∙ flipped_bit (bit_at b i) (bit_at-lt b i))
    ∙ and_comm (bit_at a i == 1) (not (bit_at b i == 1))

-- ---- one word of a set

holds_set : (words : List ℕ) (place w k : ℕ) → place < length words → holds (set words place w) k ≡ cond (k / 64 == place) (bit_at w (k % 64) == 1) (holds words k)
holds_set words place w k l =
    elim (cases_Bool (k / 64 == place)) [
      | inl e ↦
          let same : get_or (set words place w) (k / 64) 0 ≡ w = ap (λ i. get_or (set words place w) i 0) (eqb-true (k / 64) place e) ∙ get_or-set_same words place w 0 l in
          rw e (ap (λ v. bit_at v (k % 64) == 1) same)
      | inr e ↦
          let apart : k / 64 ≢ place = λ s. both_ways (k / 64 == place) e (eq-eqb (k / 64) place s) in
          rw e (ap (λ v. bit_at v (k % 64) == 1) (get_or-set_other words place (k / 64) w 0 apart))
    ]

-- a set holds no key past its words
pub holds_past : (words : List ℕ) (k : ℕ) → length words ≤ k / 64 → holds words k ≡ false
holds_past words k past =
    ap (λ v. bit_at v (k % 64) == 1) (get_or_past words (k / 64) 0 past) ∙ ap (λ b. b == 1) (bit_at-zero (k % 64))

within_word : (k : ℕ) → k % 64 < 64
within_word k = omega arith

lt_more : (a b : ℕ) → (a == b) ≡ false → nat_lt a (b + 1) ≡ nat_lt a b
lt_more a b e = grind (arith, nat_tests)

lt_here : (a b : ℕ) → (a == b) ≡ true → (nat_lt a (b + 1) ≡ true) × (nat_lt a b ≡ false)
lt_here a b e = (grind (arith, nat_tests), grind (arith, nat_tests))

-- ---- word by word

-- the words before the place have been joined, or parted
abbrev pub JoinedTo : List ℕ → List ℕ → ℕ → List ℕ → Type 0
JoinedTo old others place words = (k : ℕ) → holds words k ≡ ((nat_lt (k / 64) place && holds others k) || holds old k)

abbrev pub PartedTo : List ℕ → List ℕ → ℕ → List ℕ → Type 0
PartedTo old others place words = (k : ℕ) → holds words k ≡ (not (nat_lt (k / 64) place && holds others k) && holds old k)

module _ (old others words : List ℕ) (place : ℕ) (l : place < length words) where
  pub joined_more : JoinedTo old others place words → JoinedTo old others (place + 1) (set words place (bit_or (get_or words place 0) (get_or others place 0)))
  joined_more h k =
      let w = get_or words place 0 in
      let o = get_or others place 0 in
      holds_set words place (bit_or w o) k l
      ∙ elim (cases_Bool (k / 64 == place)) [
        | inl e ↦
            let at = eqb-true (k / 64) place e in
            let lt = lt_here (k / 64) place e in
            let mine : (bit_at w (k % 64) == 1) ≡ holds old k = ap (λ i. bit_at (get_or words i 0) (k % 64) == 1) (sym at) ∙ h k ∙ rw lt.1 refl in
            let theirs : (bit_at o (k % 64) == 1) ≡ holds others k = ap (λ i. bit_at (get_or others i 0) (k % 64) == 1) (sym at) in
            rw (e, lt.0) (joined_bit w o (k % 64) ∙ rw (mine, theirs) refl)
        | inr e ↦ rw (e, lt_more (k / 64) place e) (h k)
      ]

  pub parted_more : get_or others place 0 < 2 ^ 64 → PartedTo old others place words → PartedTo old others (place + 1) (set words place (bit_and (get_or words place 0) (bit_not w64 (get_or others place 0))))
  parted_more fits h k =
      let w = get_or words place 0 in
      let o = get_or others place 0 in
      holds_set words place (bit_and w (bit_not w64 o)) k l
      ∙ elim (cases_Bool (k / 64 == place)) [
        | inl e ↦
            let at = eqb-true (k / 64) place e in
            let lt = lt_here (k / 64) place e in
            let mine : (bit_at w (k % 64) == 1) ≡ holds old k = ap (λ i. bit_at (get_or words i 0) (k % 64) == 1) (sym at) ∙ h k ∙ rw lt.1 refl in
            let theirs : (bit_at o (k % 64) == 1) ≡ holds others k = ap (λ i. bit_at (get_or others i 0) (k % 64) == 1) (sym at) in
            rw (e, lt.0) (parted_bit w o (k % 64) fits (within_word k) ∙ rw (mine, theirs) refl)
        | inr e ↦ rw (e, lt_more (k / 64) place e) (h k)
      ]

lt_true : (a b : ℕ) → a < b → nat_lt a b ≡ true
lt_true a b l = grind (arith, nat_tests)

-- all words of the other set have been read
pub joined_whole : (old others words : List ℕ) (place : ℕ) → length others ≤ place → JoinedTo old others place words → (k : ℕ) → holds words k ≡ (holds others k || holds old k)
joined_whole old others words place whole h k =
    elim (cases_lt (k / 64) (length others)) [
      | inl l ↦ h k ∙ rw (lt_true (k / 64) place (omega arith)) refl
      | inr past ↦ h k ∙ rw (holds_past others k past, and-false (nat_lt (k / 64) place)) refl
    ]

pub parted_whole : (old others words : List ℕ) (place : ℕ) → min (length old) (length others) ≤ place → PartedTo old others place words → (k : ℕ) → holds words k ≡ (not (holds others k) && holds old k)
parted_whole old others words place whole h k =
    elim (cases_lt (k / 64) (length others)) [
      | inl l ↦ elim (cases_lt (k / 64) (length old)) [
        | inl m ↦ h k ∙ rw (lt_true (k / 64) place (omega arith)) refl
        | inr past ↦
            let none = holds_past old k past in
            h k ∙ rw (none, and-false (not (nat_lt (k / 64) place && holds others k)), and-false (not (holds others k))) refl
      ]
      | inr past ↦ h k ∙ rw (holds_past others k past, and-false (nat_lt (k / 64) place)) refl
    ]

-- ---- keys that two sets share

module _ (a b : List ℕ) where
  abbrev pub ApartTo : ℕ → Type 0
  ApartTo place = (k : ℕ) → k / 64 < place → (holds a k && holds b k) ≡ false

  pub apart_more : (place : ℕ) → bit_and (get_or a place 0) (get_or b place 0) ≡ 0 → ApartTo place → ApartTo (place + 1)
  apart_more place none h k l =
      elim (cases_lt (k / 64) place) [
        | inl lt ↦ h k lt
        | inr ge ↦
            let at : k / 64 ≡ place = omega arith in
            sym (shared_bit (get_or a (k / 64) 0) (get_or b (k / 64) 0) (k % 64))
            ∙ ap (λ i. bit_at (bit_and (get_or a i 0) (get_or b i 0)) (k % 64) == 1) at
            ∙ ap (λ v. bit_at v (k % 64) == 1) none ∙ ap (λ x. x == 1) (bit_at-zero (k % 64))
      ]

  pub apart_whole : (place : ℕ) → min (length a) (length b) ≤ place → ApartTo place → KeepsApart a b
  apart_whole place whole h k =
      elim (cases_lt (k / 64) (length a)) [
        | inl l ↦ elim (cases_lt (k / 64) (length b)) [ inl m ↦ h k (omega arith) | inr past ↦ rw (holds_past b k past) (and-false (holds a k)) ]
        | inr past ↦ rw (holds_past a k past) refl
      ]

  pub meets_here : (place : ℕ) → bit_and (get_or a place 0) (get_or b place 0) ≢ 0 → bit_and (get_or a place 0) (get_or b place 0) < 2 ^ 64 → Meets a b
  meets_here place some fits =
      let w = bit_and (get_or a place 0) (get_or b place 0) in
      let t = trailing_zeros w64 w in
      let found = bit_at-trailing_zeros w64 w (omega arith) fits in
      let lt : t < 64 = found.0 in
      let k = place * 64 + t in
      let word : k / 64 ≡ place = omega arith in
      let bit : k % 64 ≡ t = omega arith in (
        k,
        ap (λ i. (bit_at (get_or a i 0) (k % 64) == 1) && (bit_at (get_or b i 0) (k % 64) == 1)) word
            ∙ ap (λ i. (bit_at (get_or a place 0) i == 1) && (bit_at (get_or b place 0) i == 1)) bit
            ∙ sym (shared_bit (get_or a place 0) (get_or b place 0) t) ∙ eq-eqb (bit_at w t) 1 found.1,
      )
