-- A room for a name that is filled byte by byte.
use Rattle.std.proofs.Common.{◌≡◌, ℕ, suc, ◌+◌, ◌-◌, ◌<◌, ◌≤◌, true, List, [], ◌∷◌, ◌++◌, length, take, get_or, set, replicate, refl, sym, ap, ◌∙◌, append_assoc, arith}
use Rattle.std.specs.List.{list_all}
use Rattle.std.specs.Str.{is_utf8}
use Rattle.std.specs.Cmp.Derive.{both_true}
use Rattle.std.proofs.lemmas.Bool.{and_parts, lt-ltb, le-leb}
use Rattle.std.proofs.lemmas.List.{length-take-le, take_all, take_more}
use Rattle.std.proofs.lemmas.List.Folds.{list_all-append}
use Rattle.std.proofs.Math.Seq.{set-append_seam}
use Rattle.rail_model.specs.declared.name.TheConstants.{NAME_BYTES}
use Rattle.rail_model.specs.Name.{is_name_byte, IsFilled}
use Rattle.rail_model.proofs.NameTests.{is_printable_byte, printable_is_plain_text}

-- one byte more is printable
pub printable_more : (bytes : List ℕ) (i : ℕ) → i < length bytes → list_all is_printable_byte (take i bytes) ≡ true
    → 32 ≤ get_or bytes i 0 → get_or bytes i 0 < 127 → list_all is_printable_byte (take (i + 1) bytes) ≡ true
printable_more bytes i there so_far low high =
    ap (list_all is_printable_byte) (take_more bytes i 0 there) ∙ list_all-append is_printable_byte (take i bytes) (get_or bytes i 0 ∷ [])
    ∙ both_true so_far (both_true (both_true (le-leb 32 _ low) (lt-ltb _ 127 high)) refl)

-- and stands in the room
pub filled_more : (bytes room : List ℕ) (i : ℕ) → i < length bytes → length bytes ≤ NAME_BYTES
    → room ≡ take i bytes ++ replicate (NAME_BYTES - i) 0
    → set room i (get_or bytes i 0) ≡ take (i + 1) bytes ++ replicate (NAME_BYTES - (i + 1)) 0
filled_more bytes room i there short so_far =
    let first = take i bytes in
    let byte = get_or bytes i 0 in
    let left = NAME_BYTES - (i + 1) in
    let at : length first ≡ i = length-take-le i bytes (omega (arith, there)) in
    let more : NAME_BYTES - i ≡ suc left = omega (arith, there, short) in
    ap (λ (r : List ℕ). set r i byte) (so_far ∙ ap (λ n. first ++ replicate n 0) more)
    ∙ ap (λ k. set (first ++ 0 ∷ replicate left 0) k byte) (sym at)
    ∙ set-append_seam first 0 (replicate left 0) byte
    ∙ sym (append_assoc first (byte ∷ []) (replicate left 0))
    ∙ ap (λ (r : List ℕ). r ++ replicate left 0) (sym (take_more bytes i 0 there))

-- in the end the room is filled
pub filled_whole : (bytes room : List ℕ) (i : ℕ) → i ≡ length bytes → 0 < length bytes → length bytes ≤ NAME_BYTES
    → list_all is_printable_byte (take i bytes) ≡ true → room ≡ take i bytes ++ replicate (NAME_BYTES - i) 0 → IsFilled bytes room
filled_whole bytes room i end some short printable filled =
    let whole : take i bytes ≡ bytes = take_all i bytes (omega (arith, end)) in
    let plain = and_parts (list_all is_name_byte bytes) (is_utf8 bytes)
    (printable_is_plain_text bytes (ap (list_all is_printable_byte) (sym whole) ∙ printable)) in
    record {
      named = both_true (both_true (both_true (lt-ltb 0 _ some) (le-leb _ NAME_BYTES short)) plain.0) plain.1;
      filled = filled ∙ ap (λ (b : List ℕ). b ++ replicate (NAME_BYTES - i) 0) whole ∙ ap (λ n. bytes ++ replicate (NAME_BYTES - n) 0) end;
    }
