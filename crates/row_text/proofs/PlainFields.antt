-- Fields that CSV writes as they are.
use Rattle.std.proofs.Common.{◌≡◌, ℕ, suc, ◌^◌, ◌<◌, Bool, true, false, List, [], ◌∷◌, decimal, ℤ, pos, negsuc, FitsSigned, w64, refl, arith}
use Rattle.std.specs.List.{list_any, list_all}
use Rattle.std.specs.Char.{is_ascii_digit}
use Rattle.std.specs.Fmt.{signed_decimal}
use Rattle.std.proofs.lemmas.Bool.{and_parts, ne_eqb}
use Rattle.std.proofs.lemmas.Bool.Decides.{nat_tests}
use Rattle.csv.specs.Writing.{default_writer, needs_byte, needs_quotes, field_text}
use Rattle.std.proofs.Common.{◌+◌, ◌++◌, ◌||◌, ◌==◌, not, map, take, length, get_or}
use Rattle.std.proofs.lemmas.List.{take_more, map-append}
use Rattle.std.proofs.Math.Bool.{or-true}
use Rattle.row_text.specs.Put.{separator, more_text}
use Rattle.row_text.specs.SheetRows.{has_fields}
use Rattle.row_text.proofs.Numbers.{decimal_digits}
use Rattle.row_text.proofs.SheetRows.{more_text-push, has_fields-append}

digit-plain : (b : ℕ) → is_ascii_digit b ≡ true → needs_byte default_writer b ≡ false
digit-plain b digit = grind (arith, nat_tests)

digits-plain : (digits : List ℕ) → list_all is_ascii_digit digits ≡ true → list_any (needs_byte default_writer) digits ≡ false
digits-plain [] all = refl
digits-plain (b ∷ digits) all =
    let both = and_parts (is_ascii_digit b) (list_all is_ascii_digit digits) all in
    rw (digit-plain b both.0, digits-plain digits both.1) refl

-- a field that needs no quotes is written as it is
pub field_text-plain : (field : List ℕ) → needs_quotes default_writer field ≡ false → field_text default_writer field ≡ field
field_text-plain field plain = rw plain refl

-- a number never needs quotes
pub field_text-decimal : (n : ℕ) → n < 2 ^ 64 → field_text default_writer (decimal n) ≡ decimal n
field_text-decimal n small = rw (digits-plain (decimal n) (decimal_digits n small).0) refl

pub field_text-signed_decimal : (z : ℤ) → FitsSigned w64 z → field_text default_writer (signed_decimal z) ≡ signed_decimal z
field_text-signed_decimal (pos n) fits = let small = fits.sfits in field_text-decimal n (omega arith)
field_text-signed_decimal (negsuc n) fits =
    let small = fits.sfits in
    rw (digits-plain (decimal (suc n)) (decimal_digits (suc n) (omega arith)).0) refl

-- one number more
pub more_text-numbers : (has_field : Bool) (numbers : List ℤ) (i : ℕ) (d : ℤ) → i < length numbers → FitsSigned w64 (get_or numbers i d)
    → more_text has_field (map signed_decimal (take (i + 1) numbers))
    ≡ more_text has_field (map signed_decimal (take i numbers)) ++ (separator (has_field || has_fields (map signed_decimal (take i numbers))) ++ signed_decimal (get_or numbers i d))
more_text-numbers has_field numbers i d lt fits = rw (take_more numbers i d lt, map-append, more_text-push, field_text-signed_decimal (get_or numbers i d) fits) refl

pub has_fields-numbers : (has_field : Bool) (numbers : List ℤ) (i : ℕ) (d : ℤ) → i < length numbers → (has_field || has_fields (map signed_decimal (take (i + 1) numbers))) ≡ true
has_fields-numbers has_field numbers i d lt = rw (take_more numbers i d lt, map-append, has_fields-append, or-true, or-true) refl

-- there is a field for each number
pub has_fields-map : (numbers : List ℤ) → has_fields (map signed_decimal numbers) ≡ not (length numbers == 0)
has_fields-map [] = refl
has_fields-map (number ∷ numbers) = rw (ne_eqb (length (number ∷ numbers)) 0 (λ none. omega arith)) refl
