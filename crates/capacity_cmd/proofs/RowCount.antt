-- A text has no more rows than bytes.
use Rattle.std.proofs.Common.{◌≡◌, ℕ, zero, suc, ◌+◌, ◌≤◌, Bool, true, false, if◌then◌else◌, List, [], ◌∷◌, ◌++◌, length, Option, Some, None, refl, arith}
use Rattle.std.specs.Prelude.{⊤, ◌==◌, ◌||◌}
use Rattle.csv.specs.declared.parser.State.{State}
use Rattle.csv.specs.declared.parser.State.TheVariants as st
use Rattle.csv.specs.declared.parser.Action.{Action}
use Rattle.csv.specs.Machine.{Read, in_field, start_field, start_record, step, ends_at_end, is_end, fields_after, field_after, next_record}
use Rattle.csv.specs.Reading.{records_next, records_from, strip_bom, is_bom, default_config}
use Rattle.row_text.specs.Rows.{rows_of}

-- what holds of both branches
either : {A : Type 0} (P : A → Type 0) (b : Bool) (x y : A) → (b ≡ true → P x) → (b ≡ false → P y) → P (if b then x else y)
either P true x y first second = first refl
either P false x y first second = second refl

-- ---- one byte

-- a byte that ends a row leaves a state in which no row is open
abbrev Closes : State × Action → Type 0
Closes p = is_end p.1 ≡ true → ends_at_end p.0 ≡ false

in_field_closes : (c : ℕ) → Closes (in_field default_config c)
in_field_closes c =
    either Closes (c == 44) _ _ (λ is h. absurd (cc)) (λ other.
    either Closes ((c == 13) || (c == 10)) _ _
    (λ is h. either (λ s. ends_at_end s ≡ false) (c == 13) st.AfterCr st.StartRecord (λ cr. refl) (λ lf. refl))
    (λ not h. absurd (cc)))

start_field_closes : (c : ℕ) → Closes (start_field default_config c)
start_field_closes c = either Closes (c == 34) _ _ (λ is h. absurd (cc)) (λ other. in_field_closes c)

start_record_closes : (c : ℕ) → Closes (start_record default_config c)
start_record_closes c =
    either Closes ((c == 13) || (c == 10)) _ _ (λ is h. absurd (cc)) (λ other. start_field_closes c)

step_closes : (s : State) (c : ℕ) → Closes (step default_config s c)
step_closes st.StartRecord c = start_record_closes c
step_closes st.StartField c = start_field_closes c
step_closes st.InField c = in_field_closes c
step_closes st.InQuoted c = either Closes (c == 34) _ _ (λ is h. absurd (cc)) (λ other h. absurd (cc))
step_closes st.InEscape c = λ h. absurd (cc)
step_closes st.AfterQuote c = either Closes (c == 34) _ _ (λ is h. absurd (cc)) (λ other. in_field_closes c)
step_closes st.InComment c = either Closes (c == 10) _ _ (λ is h. absurd (cc)) (λ other h. absurd (cc))
step_closes st.AfterCr c = either Closes (c == 10) _ _ (λ is h. absurd (cc)) (λ other. start_record_closes c)

-- ---- one row

-- a row leaves so many bytes at most, and no row open
abbrev Leaves : ℕ → Option Read → Type 0
Leaves bytes None = ⊤
Leaves bytes (Some p) = (ends_at_end p.1 ≡ false) × (length p.2 ≤ bytes)

leaves_more : (bytes : ℕ) (next : Option Read) → Leaves bytes next → Leaves (suc bytes) next
leaves_more bytes None h = tt
leaves_more bytes (Some p) h = (h.0, omega (arith, h.1))

-- of a text that isn't empty it takes a byte at least
takes_one : (rest : List ℕ) → ((s : State) (fields : List (List ℕ)) (field : List ℕ) → Leaves (length rest) (next_record default_config s fields field rest))
    → (s : State) (fields : List (List ℕ)) (field : List ℕ) (c : ℕ) → Leaves (length rest) (next_record default_config s fields field (c ∷ rest))
unfolding next_record
takes_one rest after s fields field c =
    either (Leaves (length rest)) (is_end (step default_config s c).1) _ _ (λ is. (step_closes s c is, omega arith))
    (λ other. after (step default_config s c).0 (fields_after (step default_config s c).1 fields field) (field_after (step default_config s c).1 c field))

next_leaves : (xs : List ℕ) (s : State) (fields : List (List ℕ)) (field : List ℕ) → Leaves (length xs) (next_record default_config s fields field xs)
unfolding next_record
next_leaves [] s fields field =
    either (Leaves 0) (ends_at_end s) (Some (fields ++ field ∷ [], st.StartRecord, [])) None (λ is. (refl, omega arith)) (λ other. tt)
next_leaves (c ∷ rest) s fields field =
    leaves_more (length rest) (next_record default_config s fields field (c ∷ rest)) (takes_one rest (next_leaves rest) s fields field c)

-- ---- all rows

by_next : (rest : List ℕ) (more : State → List ℕ → List (List (List ℕ)))
    → ((s : State) (xs : List ℕ) → ends_at_end s ≡ false → length (more s xs) ≤ length xs)
    → (next : Option Read) → Leaves (length rest) next → length (records_next more next) ≤ suc (length rest)
by_next rest more each None h = omega arith
by_next rest more each (Some p) h = omega (arith, each p.1 p.2 h.0, h.1)

at_end : (more : State → List ℕ → List (List (List ℕ))) (s : State) → ends_at_end s ≡ false
    → length (records_next more (next_record default_config s [] [] [])) ≤ 0
unfolding next_record
at_end more s closed = rw closed (omega arith)

from_closed : (n : ℕ) (s : State) (xs : List ℕ) → ends_at_end s ≡ false → length (records_from default_config n s xs) ≤ length xs
unfolding records_from
from_closed zero s xs closed = omega arith
from_closed (suc n) s [] closed = at_end (records_from default_config n) s closed
from_closed (suc n) s (c ∷ rest) closed =
    by_next rest (records_from default_config n) (from_closed n) (next_record default_config s [] [] (c ∷ rest))
    (takes_one rest (next_leaves rest) s [] [] c)

shorter : (text : List ℕ) → length (strip_bom text) ≤ length text
unfolding strip_bom
shorter [] = omega arith
shorter (a ∷ []) = omega arith
shorter (a ∷ b ∷ []) = omega arith
shorter (a ∷ b ∷ c ∷ rest) =
    either (λ (xs : List ℕ). length xs ≤ length (a ∷ b ∷ c ∷ rest)) (is_bom a b c) rest (a ∷ b ∷ c ∷ rest) (λ is. omega arith) (λ other. omega arith)

pub row_count : (text : List ℕ) → length (rows_of text) ≤ length text
row_count text =
    omega (arith, from_closed (length (strip_bom text) + 1) st.StartRecord (strip_bom text) refl, shorter text)
