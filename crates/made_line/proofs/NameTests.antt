-- Printed bytes are a name.
use Rattle.std.proofs.Common.{◌≡◌, ℕ, zero, suc, refl, ◌<◌, ◌≤◌, true, List, [], ◌∷◌, length, IsTrue, arith}
use Rattle.std.specs.Prelude.{nat_le, nat_lt}
use Rattle.std.specs.List.{list_all}
use Rattle.std.specs.Str.{IsAscii}
use Rattle.std.specs.Cmp.Derive.{both_true}
use Rattle.std.proofs.lemmas.Bool.{and_parts, ltb-true, lt-ltb, le-leb}
use Rattle.std.proofs.lemmas.Bool.Decides.{nat_tests}
use Rattle.std.proofs.lemmas.Str.{is_utf8-from_IsUtf8, IsUtf8-from_ascii}
use Rattle.rail_model.specs.declared.name.TheConstants.{NAME_BYTES}
use Rattle.rail_model.specs.Name.{is_name, is_name_byte}
use Rattle.made_line.specs.Base.{is_printed, digit}

pub digit_is_printed : (n : ℕ) → n < 10 → IsTrue (is_printed (digit n))
digit_is_printed n small = both_true (le-leb 32 (digit n) (omega arith)) (lt-ltb (digit n) 127 (omega arith))

printed_is_ascii : (bytes : List ℕ) → list_all is_printed bytes ≡ true → IsAscii bytes
printed_is_ascii [] h i = omega arith
printed_is_ascii (b ∷ bytes) h zero =
    let at_first = and_parts (nat_le 32 b) (nat_lt b 127) (and_parts (is_printed b) _ h).0 in
    omega (arith, ltb-true b 127 at_first.1)
printed_is_ascii (b ∷ bytes) h (suc i) = printed_is_ascii bytes (and_parts (is_printed b) _ h).1 i

name_byte : (b : ℕ) → is_printed b ≡ true → is_name_byte b ≡ true
name_byte b h =
    let parts = and_parts (nat_le 32 b) (nat_lt b 127) h in
    let low : b < 127 = ltb-true b 127 parts.1 in
    both_true parts.0 (grind (arith, nat_tests, low))

name_bytes : (bytes : List ℕ) → list_all is_printed bytes ≡ true → list_all is_name_byte bytes ≡ true
name_bytes [] h = refl
name_bytes (b ∷ bytes) h =
    let parts = and_parts (is_printed b) _ h in both_true (name_byte b parts.0) (name_bytes bytes parts.1)

pub named : (bytes : List ℕ) → 0 < length bytes → length bytes ≤ 64 → list_all is_printed bytes ≡ true
    → IsTrue (is_name bytes)
named bytes some short printed =
    both_true (both_true (both_true (lt-ltb 0 (length bytes) some) (le-leb (length bytes) NAME_BYTES short))
    (name_bytes bytes printed))
    (is_utf8-from_IsUtf8 bytes (IsUtf8-from_ascii bytes (printed_is_ascii bytes printed)))
