-- What a row has that spells a line: names, numbers below 1,000,000,000, and as many further fields as it may have.
use Rattle.std.proofs.Common.{◌≡◌, ℕ, suc, ◌+◌, ◌-◌, ◌*◌, ◌^◌, ◌<◌, ◌≤◌, Bool, true, ◌&&◌, ◌==◌, nat_lt, nat_le, List, [], ◌∷◌, length, drop, take, fold, Option, Some, None, Result, Ok, Err, slice_range, refl, ap, subst, inl, inr, arith}
use Rattle.std.specs.List.{list_all}
use Rattle.std.specs.Char.{is_ascii_digit}
use Rattle.std.proofs.lemmas.Bool.{cases_Bool, and_parts, ltb-true, leb-true}
use Rattle.std.proofs.lemmas.Bool.Decides.{nat_tests}
use Rattle.std.proofs.Common.{◌⊎◌, get_or, option_map, if◌then◌else◌}
use Rattle.std.specs.List.{find}
use Rattle.std.proofs.lemmas.Option.{option_and_then_some}
use Rattle.std.proofs.lemmas.List.{length-take}
use Rattle.std.proofs.Math.Nat.{pow-succ', pow-le-pow_right, mul-le-mul_right}
use Rattle.std.proofs.lemmas.List.{length-drop}
use Rattle.rail_model.specs.Name.{is_name, is_same}
use Rattle.rail_model.specs.declared.form.Form.{Form}
use Rattle.rail_model.specs.declared.form.Form.TheVariants as form
use Rattle.std.specs.Option.{option_or, ok_or}
use Rattle.row_text.specs.SheetRows.{Row}
use Rattle.row_text.specs.Words.{value_of, is_number, number_of, classes, class_rate, rate_of, has_clock_form, clock_after, clock_of, time_of, name_in, number_in, rate_in, time_in}
use Rattle.row_text.specs.Lines.{◌>>=◌, read_each}

-- the value before a read that goes on
pub bind-ok : {A B : Type 0} (r : Result A Form) (next : A → Result B Form) (y : B) → (r >>= next) ≡ Ok y → (x : A) × (r ≡ Ok x) × (next x ≡ Ok y)
bind-ok (Ok x) next y e = (x, refl, e)
bind-ok (Err fault) next y e = absurd (cc e)

ok_or-ok : {A : Type 0} (fault : Form) (o : Option A) (x : A) → ok_or o fault ≡ Ok x → o ≡ Some x
ok_or-ok fault (Some y) x e = cc e
ok_or-ok fault None x e = absurd (cc e)

value_from : (before : ℕ) (digits : List ℕ) → list_all is_ascii_digit digits ≡ true → fold (λ value digit. value * 10 + (digit - 48)) before digits < (before + 1) * 10 ^ length digits
value_from before [] all = omega arith
value_from before (digit ∷ digits) all =
    let first = and_parts (is_ascii_digit digit) (list_all is_ascii_digit digits) all in
    let small : digit - 48 ≤ 9 = digit_small digit first.0 in
    let rest = value_from (before * 10 + (digit - 48)) digits first.1 in
    let most = mul-le-mul_right {m = before * 10 + (digit - 48) + 1} {n = (before + 1) * 10} (10 ^ length digits) (omega arith) in
    rw pow-succ' (omega (arith, rest, most))
  where
    digit_small : (digit : ℕ) → is_ascii_digit digit ≡ true → digit - 48 ≤ 9
    digit_small digit e = grind (arith, nat_tests)

-- a number has at most nine digits
number_of-digits : (text : List ℕ) (n : ℕ) → number_of text ≡ Some n → (n < 10 ^ length text) × (length text ≤ 9)
number_of-digits text n e = elim (cases_Bool (is_number text)) [
  | inl is ↦
      let all = and_parts (nat_lt 0 (length text) && nat_le (length text) 9) (list_all is_ascii_digit text) is in
      let few = leb-true (length text) 9 (and_parts (nat_lt 0 (length text)) (nat_le (length text) 9) all.0).1 in
      let value : n ≡ value_of text = cc (rw is at e) in
      (omega (arith, value, value_from 0 text all.1), few)
  | inr other ↦ absurd (cc (rw other at e))
]

number_of-below : (digits : ℕ) (text : List ℕ) (n : ℕ) → number_of text ≡ Some n → length text ≤ digits → n < 10 ^ digits
number_of-below digits text n e few =
    let most = pow-le-pow_right {n = 10} (omega arith) {i = length text} {j = digits} few in
    omega (arith, (number_of-digits text n e).0, most)

number_of-small : (text : List ℕ) (n : ℕ) → number_of text ≡ Some n → n < 1000000000
number_of-small text n e = number_of-below 9 text n e (number_of-digits text n e).1

abbrev pub Each : {A : Type 0} → (A → Type 0) → List A → Type 0
Each P [] = Unit {0}
Each P (x ∷ xs) = P x × Each P xs

-- a class has a small rate
find-each : {A : Type 0} (P : A → Type 0) (test : A → Bool) (xs : List A) (x : A) → Each P xs → find test xs ≡ Some x → P x
find-each P test [] x each e = absurd (cc e)
find-each {A} P test (y ∷ ys) x each e = elim (cases_Bool (test y)) [
  | inl found ↦ let same : y ≡ x = cc (rw found at e) in subst P same each.0
  | inr other ↦ find-each P test ys x each.1 (rw other at e)
]

option_map-some : {A B : Type 0} (f : A → B) (o : Option A) (y : B) → option_map f o ≡ Some y → (x : A) × (o ≡ Some x) × (f x ≡ y)
option_map-some f (Some x) y e = (x, refl, cc e)
option_map-some f None y e = absurd (cc e)

class_rate-small : (text : List ℕ) (n : ℕ) → class_rate text ≡ Some n → n < 1000000000
class_rate-small text n e =
    let small : List ℕ × ℕ → Type 0 = λ c. c.1 < 1000000000 in
    let all : Each small classes = (omega arith, (omega arith, (omega arith, (omega arith, (omega arith, (omega arith, tt)))))) in
    let found = option_map-some (λ (c : List ℕ × ℕ). c.1) (find (λ c. is_same text c.0) classes) n e in
    omega (arith, found.2, find-each small (λ c. is_same text c.0) classes found.0 all found.1)

option_or-some : {A : Type 0} (first second : Option A) (x : A) → option_or first second ≡ Some x → (first ≡ Some x) ⊎ (second ≡ Some x)
option_or-some None second x e = inr e
option_or-some (Some y) second x e = inl e

rate_of-small : (text : List ℕ) (n : ℕ) → rate_of text ≡ Some n → n < 1000000000
rate_of-small text n e = elim (option_or-some (number_of text) (class_rate text) n e) [
  | inl number ↦ number_of-small text n number
  | inr class ↦ class_rate-small text n class
]

clock-small : (h m s n : ℕ) → h < 100000 → (if nat_lt m 60 && nat_lt s 60 then Some (h * 3600 + m * 60 + s) else None) ≡ Some n → n < 1000000000
clock-small h m s n few e = elim (cases_Bool (nat_lt m 60 && nat_lt s 60)) [
  | inl below ↦
      let both = and_parts (nat_lt m 60) (nat_lt s 60) below in
      let sum : h * 3600 + m * 60 + s ≡ n = cc (rw below at e) in
      omega (arith, sum, ltb-true m 60 both.0, ltb-true s 60 both.1)
  | inr other ↦ absurd (cc (rw other at e))
]

clock_after-small : (digits : ℕ) (text : List ℕ) (n : ℕ) → digits ≤ 5 → clock_after digits text ≡ Some n → n < 1000000000
clock_after-small digits text n few e =
    option_and_then_some _ (number_of (take digits text)) n e (λ h is_h in_hours.
    option_and_then_some _ (number_of (slice_range text (digits + 1) (digits + 3))) n in_hours (λ m is_m in_minutes.
    option_and_then_some _ (number_of (slice_range text (digits + 4) (digits + 6))) n in_minutes (λ s is_s in_seconds.
    clock-small h m s n (number_of-below 5 (take digits text) h is_h (omega (arith, length-take digits text))) in_seconds)))

clock_of-small : (text : List ℕ) (n : ℕ) → clock_of text ≡ Some n → n < 1000000000
clock_of-small text n e = elim (cases_Bool (has_clock_form text)) [
  | inl form ↦
      let colons = and_parts (nat_le 7 (length text) && nat_le (length text) 11 && (get_or text (length text - 6) 0 == 58)) (get_or text (length text - 3) 0 == 58) form in
      let sizes = (and_parts (nat_le 7 (length text) && nat_le (length text) 11) (get_or text (length text - 6) 0 == 58) colons.0).0 in
      let most = leb-true (length text) 11 (and_parts (nat_le 7 (length text)) (nat_le (length text) 11) sizes).1 in
      clock_after-small (length text - 6) text n (omega arith) (rw form at e)
  | inr other ↦ absurd (cc (rw other at e))
]

time_of-small : (version : ℕ) (text : List ℕ) (n : ℕ) → time_of version text ≡ Some n → n < 1000000000
time_of-small version text n e = elim (cases_Bool (version == 2)) [
  | inl second ↦ elim (option_or-some (number_of text) (clock_of text) n (rw second at e)) [
    | inl number ↦ number_of-small text n number
    | inr clock ↦ clock_of-small text n clock
  ]
  | inr first ↦ number_of-small text n (rw first at e)
]

-- a name says itself
name_in-again : (text n : List ℕ) → name_in text ≡ Ok n → name_in n ≡ Ok n
name_in-again text n e = elim (cases_Bool (is_name text)) [
  | inl is ↦ let same : text ≡ n = cc (rw is at e) in subst (λ (t : List ℕ). name_in t ≡ Ok n) same e
  | inr other ↦ absurd (cc (rw other at e))
]

-- what a field may be: a name; a number; a rate in per cent; a time in seconds
pub data Sort : Type 0 where
  Name : Sort
  Number : Sort
  Rate : Sort
  Time : Sort

-- what a field of a sort says can be said
abbrev pub Read : Sort → Type 0
Read Name = List ℕ
Read sort = ℕ

abbrev pub Says : (sort : Sort) → Read sort → Type 0
Says Name n = name_in n ≡ Ok n
Says Number n = n < 1000000000
Says Rate n = n < 1000000000
Says Time n = n < 1000000000

time_in-says : (version : ℕ) (text : List ℕ) (n : ℕ) → time_in version text ≡ Ok n → Says Time n
time_in-says version text n e = time_of-small version text n (ok_or-ok form.Number (time_of version text) n e)

-- a field that was read says such a thing, and what comes next made the rest
pub name-ok : {B : Type 0} (text : List ℕ) (next : List ℕ → Result B Form) (y : B) → (name_in text >>= next) ≡ Ok y → (n : List ℕ) × Says Name n × (next n ≡ Ok y)
name-ok text next y e = let n = bind-ok (name_in text) next y e in (n.0, name_in-again text n.0 n.1, n.2)

pub number-ok : {B : Type 0} (text : List ℕ) (next : ℕ → Result B Form) (y : B) → (number_in text >>= next) ≡ Ok y → (n : ℕ) × Says Number n × (next n ≡ Ok y)
number-ok text next y e =
    let n = bind-ok (number_in text) next y e in
    (n.0, number_of-small text n.0 (ok_or-ok form.Number (number_of text) n.0 n.1), n.2)

pub rate-ok : {B : Type 0} (text : List ℕ) (next : ℕ → Result B Form) (y : B) → (rate_in text >>= next) ≡ Ok y → (n : ℕ) × Says Rate n × (next n ≡ Ok y)
rate-ok text next y e =
    let n = bind-ok (rate_in text) next y e in
    (n.0, rate_of-small text n.0 (ok_or-ok form.Number (rate_of text) n.0 n.1), n.2)

pub time-ok : {B : Type 0} (version : ℕ) (text : List ℕ) (next : ℕ → Result B Form) (y : B) → (time_in version text >>= next) ≡ Ok y → (n : ℕ) × Says Time n × (next n ≡ Ok y)
time-ok version text next y e =
    let n = bind-ok (time_in version text) next y e in (n.0, time_in-says version text n.0 n.1, n.2)

read_each-says : {A : Type 0} (of : List ℕ → Result A Form) (P : A → Type 0) → ((text : List ℕ) (x : A) → of text ≡ Ok x → P x) → (fields : Row) (xs : List A) → read_each of fields ≡ Ok xs
    → Each P xs × (length xs ≡ length fields)
read_each-says of P says [] xs e = let none : xs ≡ [] = cc e in rw none (tt, refl)
read_each-says {A} of P says (first ∷ fields) xs e =
    let head = bind-ok (of first) _ xs e in
    let rest = bind-ok (read_each of fields) _ xs head.2 in
    let whole : xs ≡ head.0 ∷ rest.0 = cc rest.2 in
    let tail = read_each-says of P says fields rest.0 rest.1 in
    rw whole ((says first head.0 head.1, tail.0), ap suc tail.1)

-- and so do the fields from one on
pub names-ok : {B : Type 0} (row : Row) (i : ℕ) (next : List (List ℕ) → Result B Form) (y : B) → (read_each name_in (drop i row) >>= next) ≡ Ok y
    → (names : List (List ℕ)) × Each (Says Name) names × (length row - i ≡ length names) × (next names ≡ Ok y)
names-ok row i next y e =
    let names = bind-ok (read_each name_in (drop i row)) next y e in
    let said = read_each-says name_in (Says Name) name_in-again (drop i row) names.0 names.1 in
    (names.0, said.0, omega (arith, said.1, length-drop i row), names.2)

pub times-ok : {B : Type 0} (version : ℕ) (row : Row) (i : ℕ) (next : List ℕ → Result B Form) (y : B) → (read_each (time_in version) (drop i row) >>= next) ≡ Ok y
    → (times : List ℕ) × Each (Says Time) times × (length row - i ≡ length times) × (next times ≡ Ok y)
times-ok version row i next y e =
    let times = bind-ok (read_each (time_in version) (drop i row)) next y e in
    let said = read_each-says (time_in version) (Says Time) (time_in-says version) (drop i row) times.0 times.1 in
    (times.0, said.0, omega (arith, said.1, length-drop i row), times.2)
