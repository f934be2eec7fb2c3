-- Fields that are read one after the other: what was read so far, and what the rest reads as.
use Rattle.std.proofs.Common.{◌≡◌, ℕ, zero, suc, ◌+◌, ◌<◌, List, [], ◌∷◌, ◌++◌, length, drop, Result, Ok, Err, refl, ap, append_assoc, add-one, arith}
use Rattle.rail_model.specs.declared.form.Form.{Form}
use Rattle.row_text.specs.SheetRows.{Row, field}
use Rattle.row_text.specs.Lines.{◌>>=◌, read_each}

-- what was read so far before what the rest reads as
abbrev pub after : {A : Type 0} → List A → Result (List A) Form → Result (List A) Form
after read rest = rest >>= λ xs. Ok (read ++ xs)

-- what a first field reads as before what the rest reads as
abbrev pub then_rest : {A : Type 0} → Result A Form → Result (List A) Form → Result (List A) Form
then_rest first rest = first >>= λ x. rest >>= λ xs. Ok (x ∷ xs)

pub after-push : {A : Type 0} (read : List A) (x : A) (rest : Result (List A) Form) → after (read ++ x ∷ []) rest ≡ after read (then_rest (Ok x) rest)
after-push read x (Err fault) = refl
after-push read x (Ok xs) = ap Ok (append_assoc read (x ∷ []) xs)

-- the fields from one on: that field, and those after it
read_each-suc : {A : Type 0} (of : List ℕ → Result A Form) (row : Row) (i : ℕ) → i < length row → read_each of (drop i row) ≡ then_rest (of (field row i)) (read_each of (drop (suc i) row))
read_each-suc of [] i lt = absurd (omega arith)
read_each-suc of (first ∷ row) zero lt = refl
read_each-suc of (first ∷ row) (suc i) lt = read_each-suc of row i (omega arith)

pub read_each-drop : {A : Type 0} (of : List ℕ → Result A Form) (row : Row) (i : ℕ) → i < length row → read_each of (drop i row) ≡ then_rest (of (field row i)) (read_each of (drop (i + 1) row))
read_each-drop of row i lt = rw add-one (read_each-suc of row i lt)

-- one field more was read
pub after-read : {A : Type 0} (of : List ℕ → Result A Form) (row : Row) (i : ℕ) (read : List A) (x : A) → i < length row → of (field row i) ≡ Ok x
    → after (read ++ x ∷ []) (read_each of (drop (i + 1) row)) ≡ after read (read_each of (drop i row))
after-read of row i read x lt is = rw (read_each-drop of row i lt, is) (after-push read x (read_each of (drop (i + 1) row)))
