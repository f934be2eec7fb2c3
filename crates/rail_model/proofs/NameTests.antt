-- The test for a name says what a name is.
use Rattle.std.proofs.Common.{◌≡◌, ℕ, zero, suc, [], ◌∷◌, Bool, true, List, length, ◌<◌, refl, sym, inl, inr, Result, Ok, Err, arith}
use Rattle.std.specs.Prelude.{MatchResult, is_ok, ◌&&◌, ◌==◌, not, nat_le, nat_lt}
use Rattle.std.specs.List.{list_all}
use Rattle.std.specs.Str.{IsAscii, IsUtf8, is_utf8}
use Rattle.std.specs.Cmp.Derive.{both_true}
use Rattle.std.proofs.lemmas.Str.{is_utf8-from_IsUtf8, IsUtf8-from_is_utf8, IsUtf8-from_ascii}
use Rattle.std.proofs.lemmas.Bool.{cases_Bool, and_parts, ltb-true, leb-true, lt-ltb, le-leb}
use Rattle.std.proofs.lemmas.Bool.Decides.{nat_tests}
use Rattle.std.proofs.lemmas.List.Sums.{AllPass-from_list_all, list_all-from_AllPass}
use Rattle.rail_model.specs.declared.name.TheConstants.{NAME_BYTES}
use Rattle.rail_model.specs.Name.{IsNameByte, IsName, is_name_byte, is_name}

-- the test for UTF-8 says whether reading it succeeded
pub is_utf8-from_result : {S E : Type 0} (bytes : List ℕ) (P : S → Type 0) (Q : E → Type 0) (r : Result S E) → MatchResult r (λ s. P s × IsUtf8 bytes) (λ e. (IsUtf8 bytes → ⊥) × Q e) → is_ok r ≡ is_utf8 bytes
is_utf8-from_result bytes P Q (Ok s) h = sym (is_utf8-from_IsUtf8 bytes h.1)
is_utf8-from_result bytes P Q (Err e) h =
    elim (cases_Bool (is_utf8 bytes)) [ inl t ↦ absurd (h.0 (IsUtf8-from_is_utf8 bytes t)) | inr f ↦ sym f ]

IsNameByte-from_is_name_byte : (b : ℕ) → is_name_byte b ≡ true → IsNameByte b
IsNameByte-from_is_name_byte b h =
    let parts = and_parts (nat_le 32 b) (not (b == 127)) h in
    (leb-true 32 b parts.0, grind (arith, nat_tests, parts.1))

is_name_byte-from_IsNameByte : (b : ℕ) → IsNameByte b → is_name_byte b ≡ true
is_name_byte-from_IsNameByte b h = both_true (le-leb 32 b h.0) (grind (arith, nat_tests, h.1))

-- printable bytes of ASCII are plain text
abbrev pub is_printable_byte : ℕ → Bool
is_printable_byte b = nat_le 32 b && nat_lt b 127

printable_is_plain : (b : ℕ) → is_printable_byte b ≡ true → (is_name_byte b ≡ true) × (b < 128)
printable_is_plain b h =
    let parts = and_parts (nat_le 32 b) (nat_lt b 127) h in
    let low = ltb-true b 127 parts.1 in
    (both_true parts.0 (grind (arith, nat_tests, low)), omega (arith, low))

printable_is_ascii : (bytes : List ℕ) → list_all is_printable_byte bytes ≡ true → IsAscii bytes
printable_is_ascii [] h i = omega arith
printable_is_ascii (b ∷ bytes) h zero = (printable_is_plain b (and_parts (is_printable_byte b) _ h).0).1
printable_is_ascii (b ∷ bytes) h (suc i) = printable_is_ascii bytes (and_parts (is_printable_byte b) _ h).1 i

printable_all_plain : (bytes : List ℕ) → list_all is_printable_byte bytes ≡ true → list_all is_name_byte bytes ≡ true
printable_all_plain [] h = refl
printable_all_plain (b ∷ bytes) h =
    let parts = and_parts (is_printable_byte b) _ h in
    both_true (printable_is_plain b parts.0).0 (printable_all_plain bytes parts.1)

pub printable_is_plain_text : (bytes : List ℕ) → list_all is_printable_byte bytes ≡ true → (list_all is_name_byte bytes && is_utf8 bytes) ≡ true
printable_is_plain_text bytes h =
    both_true (printable_all_plain bytes h) (is_utf8-from_IsUtf8 bytes (IsUtf8-from_ascii bytes (printable_is_ascii bytes h)))

pub IsName-from_is_name : (bytes : List ℕ) → is_name bytes ≡ true → IsName bytes
IsName-from_is_name bytes h =
    let outer = and_parts (nat_lt 0 (length bytes) && nat_le (length bytes) NAME_BYTES && list_all is_name_byte bytes) (is_utf8 bytes) h in
    let middle = and_parts (nat_lt 0 (length bytes) && nat_le (length bytes) NAME_BYTES) (list_all is_name_byte bytes) outer.0 in
    let inner = and_parts (nat_lt 0 (length bytes)) (nat_le (length bytes) NAME_BYTES) middle.0 in
    let passes = AllPass-from_list_all is_name_byte bytes middle.1 in
    record {
      some = ltb-true _ _ inner.0;
      short = leb-true _ _ inner.1;
      plain = λ k d lt. IsNameByte-from_is_name_byte _ (passes k d lt);
      text = IsUtf8-from_is_utf8 bytes outer.1;
    }

pub is_name-from_IsName : (bytes : List ℕ) → IsName bytes → is_name bytes ≡ true
is_name-from_IsName bytes name =
    both_true (both_true (both_true (lt-ltb _ _ name.some) (le-leb _ _ name.short)) (list_all-from_AllPass is_name_byte bytes (λ k d lt. is_name_byte-from_IsNameByte _ (name.plain k d lt)))) (is_utf8-from_IsUtf8 bytes name.text)
