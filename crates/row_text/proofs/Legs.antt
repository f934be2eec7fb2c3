-- The legs of times that are read from fields, two fields at a time.
use Rattle.std.proofs.Common.{◌≡◌, ℕ, ◌+◌, ◌<◌, false, ◌==◌, List, [], ◌∷◌, ◌++◌, length, drop, Result, Ok, Err, refl, arith}
use Rattle.rail_model.specs.declared.form.Form.{Form}
use Rattle.rail_model.specs.declared.items.Leg.{Leg}
use Rattle.row_text.specs.SheetRows.{Row, field}
use Rattle.row_text.specs.Words.{number_in, time_in}
use Rattle.row_text.specs.Lines.{◌>>=◌, read_each, legs_of, legs_in}
use Rattle.row_text.proofs.Reading.{after, then_rest, after-push, read_each-drop}

-- outside version 2 each field is read as in version 1, and the times are running and dwell times
times-first : (version : ℕ) (fields : Row) → (version == 2) ≡ false → read_each (time_in version) fields ≡ read_each (time_in 1) fields
times-first version [] other = refl
times-first version (first ∷ fields) other = rw (other, times-first version fields other) refl

pub legs_in-first : (version start : ℕ) (fields : Row) → (version == 2) ≡ false → legs_in version start fields ≡ legs_in 1 0 fields
legs_in-first version start fields other = rw (other, times-first version fields other) refl

-- a leg of a running and a dwell time, before what the rest reads as
two_times : (a b : ℕ) (rest : Result (List ℕ) Form)
    → (then_rest (Ok a) (then_rest (Ok b) rest) >>= λ times. Ok (legs_of times))
    ≡ then_rest (Ok (record { running_s = a; dwell_s = b })) (rest >>= λ times. Ok (legs_of times))
two_times a b (Ok times) = refl
two_times a b (Err fault) = refl

next_next : (i : ℕ) → i + 1 + 1 ≡ i + 2
next_next i = omega arith

legs_in-two : (row : Row) (i a b : ℕ) → i + 1 < length row → number_in (field row i) ≡ Ok a → number_in (field row (i + 1)) ≡ Ok b
    → legs_in 1 0 (drop i row) ≡ then_rest (Ok (record { running_s = a; dwell_s = b })) (legs_in 1 0 (drop (i + 2) row))
legs_in-two row i a b lt first second =
    rw (read_each-drop (time_in 1) row i (omega arith), first, read_each-drop (time_in 1) row (i + 1) lt, second, next_next i)
    (two_times a b (read_each (time_in 1) (drop (i + 2) row)))

-- one leg more was read
pub after-leg : (row : Row) (i a b : ℕ) (legs : List Leg) → i + 1 < length row → number_in (field row i) ≡ Ok a → number_in (field row (i + 1)) ≡ Ok b
    → after (legs ++ record { running_s = a; dwell_s = b } ∷ []) (legs_in 1 0 (drop (i + 2) row)) ≡ after legs (legs_in 1 0 (drop i row))
after-leg row i a b legs lt first second =
    rw (legs_in-two row i a b lt first second) (after-push legs (record { running_s = a; dwell_s = b }) (legs_in 1 0 (drop (i + 2) row)))
