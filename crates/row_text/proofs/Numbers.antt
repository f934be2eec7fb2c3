-- Numbers and times, from their text and back.
use Rattle.std.proofs.Common.{◌≡◌, ℕ, ◌+◌, ◌-◌, ◌*◌, ◌/◌, ◌%◌, ◌^◌, ◌<◌, ◌≤◌, true, false, ◌==◌, nat_lt, List, [], ◌∷◌, ◌++◌, length, take, get_or, Some, None, Ok, decimal, slice_range, refl, ap, ◌∙◌, inl, inr, arith}
use Rattle.std.specs.List.{list_all}
use Rattle.std.specs.Char.{is_ascii_digit}
use Rattle.std.proofs.Math.Bool.{and-false}
use Rattle.std.proofs.lemmas.Bool.{cases_Bool, lt-ltb, le-leb}
use Rattle.std.proofs.lemmas.Bool.Decides.{nat_tests}
use Rattle.std.proofs.Math.Seq.{take-append_seam, drop-append-add}
use Rattle.std.proofs.lemmas.List.{length-append, get_or-append-add}
use Rattle.std.proofs.Common.{append_assoc}
use Rattle.std.proofs.lemmas.List.Folds.{list_all-append}
use Rattle.std.proofs.lemmas.List.Sums.{fold-append}
use Rattle.std.proofs.lemmas.Fmt.{decimal_by_steps, length-decimal-le, decimal_nonempty, decimal_step}
use Rattle.row_text.specs.Words.{value_of, number_of, number_in, rate_in, has_clock_form, clock_of, time_in}
use Rattle.row_text.specs.Lines.{two_digits, hours_text, clock_text, time_text}

is_digit : (d : ℕ) → d < 10 → is_ascii_digit (48 + d) ≡ true
is_digit d lt = grind (arith, nat_tests)

value_of-push : (digits : List ℕ) (d : ℕ) → value_of (digits ++ d ∷ []) ≡ value_of digits * 10 + (d - 48)
value_of-push digits d = fold-append (λ value digit. value * 10 + (digit - 48)) 0 digits (d ∷ [])

-- the digits of a number are digits, and their value is the number
pub decimal_digits : (n : ℕ) → n < 2 ^ 64 → (list_all is_ascii_digit (decimal n) ≡ true) × (value_of (decimal n) ≡ n)
decimal_digits n small = decimal_by_steps (λ n digits. (list_all is_ascii_digit digits ≡ true) × (value_of digits ≡ n)) one more n small
  where
    one : (n : ℕ) → n < 10 → (list_all is_ascii_digit ((48 + n) ∷ []) ≡ true) × (value_of ((48 + n) ∷ []) ≡ n)
    one n lt = (rw (is_digit n lt) refl, omega arith)

    more : (n : ℕ) (digits : List ℕ) → 10 ≤ n → (list_all is_ascii_digit digits ≡ true) × (value_of digits ≡ n / 10)
        → (list_all is_ascii_digit (digits ++ (48 + n % 10) ∷ []) ≡ true) × (value_of (digits ++ (48 + n % 10) ∷ []) ≡ n)
    more n digits le h = (
      rw (list_all-append is_ascii_digit digits ((48 + n % 10) ∷ []), h.0, is_digit (n % 10) (omega arith)) refl,
      rw (value_of-push digits (48 + n % 10), h.1) (omega arith),
    )

-- digits are a number where there are one to nine
number_of-digits : (digits : List ℕ) (n : ℕ) → 0 < length digits → length digits ≤ 9 → list_all is_ascii_digit digits ≡ true → value_of digits ≡ n → number_of digits ≡ Some n
number_of-digits digits n some few all value =
    rw (lt-ltb 0 (length digits) some, le-leb (length digits) 9 few, all, value) refl

-- a number of at most nine digits is read from its text
pub number_of-decimal : (n : ℕ) → n < 1000000000 → number_of (decimal n) ≡ Some n
number_of-decimal n small =
    let digits = decimal_digits n (omega arith) in
    number_of-digits (decimal n) n (decimal_nonempty n (omega arith)) (length-decimal-le 9 n (omega arith) (omega arith) (omega arith)) digits.0 digits.1

pub number_in-decimal : (n : ℕ) → n < 1000000000 → number_in (decimal n) ≡ Ok n
number_in-decimal n small = rw (number_of-decimal n small) refl

pub rate_in-decimal : (n : ℕ) → n < 1000000000 → rate_in (decimal n) ≡ Ok n
rate_in-decimal n small = rw (number_of-decimal n small) refl

-- the hours of a time of day: two to five digits
hours : (n : ℕ) → n < 100000 → (number_of (hours_text n) ≡ Some n) × (2 ≤ length (hours_text n)) × (length (hours_text n) ≤ 5)
hours n small =
    let digits = decimal_digits n (omega arith) in
    let some = decimal_nonempty n (omega arith) in
    elim (cases_Bool (nat_lt n 10)) [
      | inl below ↦
          let lt : n < 10 = grind (arith, nat_tests) in
          let few = length-decimal-le 1 n (omega arith) (omega arith) (omega arith) in
          rw below (number_of-digits (48 ∷ decimal n) n (omega arith) (omega arith) (rw digits.0 refl) digits.1, omega arith, omega arith)
      | inr above ↦
          let le : 10 ≤ n = grind (arith, nat_tests) in
          let few = length-decimal-le 5 n (omega arith) (omega arith) (omega arith) in
          let more : length (decimal n) ≡ length (decimal (n / 10)) + 1 = ap length (decimal_step n le (omega arith)) ∙ length-append (decimal (n / 10)) _ in
          let one = decimal_nonempty (n / 10) (omega arith) in
          rw above (number_of-digits (decimal n) n some (omega arith) digits.0 digits.1, omega arith, omega arith)
    ]

two_digits-number : (n : ℕ) → n < 100 → number_of (two_digits n) ≡ Some n
two_digits-number n small = number_of-digits (two_digits n) n (omega arith) (omega arith) (rw (is_digit (n / 10) (omega arith), is_digit (n % 10) (omega arith)) refl) (omega arith)

-- the parts of a time of day
record Parts (field hours minutes seconds : List ℕ) : Type 0 where
  form : has_clock_form field ≡ true
  digits : length field - 6 ≡ length hours
  hours_part : take (length hours) field ≡ hours
  minutes_part : slice_range field (length hours + 1) (length hours + 3) ≡ minutes
  seconds_part : slice_range field (length hours + 4) (length hours + 6) ≡ seconds

parts : (hours : List ℕ) (m n s t : ℕ) → 1 ≤ length hours → length hours ≤ 5 → Parts (hours ++ (58 ∷ m ∷ n ∷ 58 ∷ s ∷ t ∷ [])) hours (m ∷ n ∷ []) (s ∷ t ∷ [])
parts hours m n s t some few =
    let two_more : (i j : ℕ) → i + 2 ≡ j → (length hours + j) - (length hours + i) ≡ 2 = λ i j e. omega arith in
    let tail : List ℕ = 58 ∷ m ∷ n ∷ 58 ∷ s ∷ t ∷ [] in
    let size : length (hours ++ tail) ≡ length hours + 6 = length-append hours tail in
    let start : length (hours ++ tail) - 6 ≡ length hours + 0 = omega (arith, size) in
    let middle : length (hours ++ tail) - 3 ≡ length hours + 3 = omega (arith, size) in
    let first : get_or (hours ++ tail) (length (hours ++ tail) - 6) 0 ≡ 58 = rw (start, get_or-append-add hours tail 0 0) refl in
    let second : get_or (hours ++ tail) (length (hours ++ tail) - 3) 0 ≡ 58 = rw (middle, get_or-append-add hours tail 3 0) refl in
    record {
      form = rw (first, second, le-leb 7 (length (hours ++ tail)) (omega (arith, size)), le-leb (length (hours ++ tail)) 11 (omega (arith, size))) refl;
      digits = omega (arith, size);
      hours_part = take-append_seam hours tail;
      minutes_part = rw (two_more 1 3 refl, drop-append-add hours tail 1) refl;
      seconds_part = rw (two_more 4 6 refl, drop-append-add hours tail 4) refl;
    }

clock_of-parts : (field hours minutes seconds : List ℕ) (h m s : ℕ) → Parts field hours minutes seconds → number_of hours ≡ Some h → number_of minutes ≡ Some m → number_of seconds ≡ Some s → m < 60 → s < 60
    → clock_of field ≡ Some (h * 3600 + m * 60 + s)
clock_of-parts field hours minutes seconds h m s p is_h is_m is_s few_m few_s =
    rw (p.form, p.digits, p.hours_part, p.minutes_part, p.seconds_part, is_h, is_m, is_s, lt-ltb m 60 few_m, lt-ltb s 60 few_s) refl

clock_text-tail : (seconds : ℕ) → clock_text seconds ≡ hours_text (seconds / 3600) ++ ((58 ∷ two_digits (seconds / 60 % 60)) ++ (58 ∷ two_digits (seconds % 60)))
clock_text-tail seconds = append_assoc (hours_text (seconds / 3600)) (58 ∷ two_digits (seconds / 60 % 60)) (58 ∷ two_digits (seconds % 60))

-- a time of day is read from its text
clock_of-text : (seconds : ℕ) → seconds ≤ 359999999 → clock_of (clock_text seconds) ≡ Some seconds
clock_of-text seconds few =
    let m = seconds / 60 % 60 in
    let s = seconds % 60 in
    let of_hours = hours (seconds / 3600) (omega arith) in
    let p = parts (hours_text (seconds / 3600)) (48 + m / 10) (48 + m % 10) (48 + s / 10) (48 + s % 10) (omega (arith, of_hours.1)) of_hours.2 in
    let sum : seconds / 3600 * 3600 + m * 60 + s ≡ seconds = omega arith in
    rw clock_text-tail (clock_of-parts _ _ _ _ (seconds / 3600) m s p of_hours.0 (two_digits-number m (omega arith)) (two_digits-number s (omega arith)) (omega arith) (omega arith) ∙ ap Some sum)

-- and is no number
number_of-clock : (seconds : ℕ) → number_of (clock_text seconds) ≡ None
number_of-clock seconds =
    let tail : List ℕ = (58 ∷ two_digits (seconds / 60 % 60)) ++ (58 ∷ two_digits (seconds % 60)) in
    let other : list_all is_ascii_digit (hours_text (seconds / 3600) ++ tail) ≡ false = list_all-append is_ascii_digit (hours_text (seconds / 3600)) tail ∙ and-false _ in
    rw (clock_text-tail, other, and-false) refl

-- a time is read from its text in each version
pub time_in-text : (version seconds : ℕ) → seconds < 1000000000 → ((version == 2) ≡ true → seconds ≤ 359999999) → time_in version (time_text version seconds) ≡ Ok seconds
time_in-text version seconds small few = elim (cases_Bool (version == 2)) [
  | inl second ↦ rw (second, number_of-clock seconds, clock_of-text seconds (few second)) refl
  | inr first ↦ rw (first, number_of-decimal seconds small) refl
]
