-- Rows that several calls add to a sheet, one after the other.
use Rattle.std.proofs.Common.{◌≡◌, List, [], ◌∷◌, ◌++◌, length, take, drop, Result, Ok, Err, OnOk, OnErr, sym, ap, ◌∙◌, append_assoc, append-nil}
use Rattle.std.specs.Prelude.{IsErrAnd}
use Rattle.std.proofs.lemmas.List.{take-append-drop}
use Rattle.std.proofs.Math.Seq.{take-append_seam}
use Rattle.row_text.specs.SheetRows.{Row, SheetRows, with_row}
use Rattle.row_text.specs.Adds.{AddsFirst, Adds}

-- rows that a list begins with are a prefix of it
prefix_of : {before after : SheetRows} (first rest all : List Row) → all ≡ first ++ rest → after.rows ≡ before.rows ++ first → AddsFirst before after all
prefix_of {before} first rest all whole is = record {
  count = length first;
  rows = is ∙ ap (λ added. before.rows ++ added) (sym (ap (take (length first)) whole ∙ take-append_seam first rest));
}

-- no row was added
pub adds_none : {before after : SheetRows} (added : List Row) → after.rows ≡ before.rows → AddsFirst before after added
adds_none {before} added same = record { count = 0; rows = same ∙ sym (append-nil before.rows) }

-- a prefix of the first rows is one of all, and so are the first rows and a prefix of those after them
pub first_added : {before after : SheetRows} {first : List Row} (rest : List Row) → AddsFirst before after first → AddsFirst before after (first ++ rest)
first_added {first = first} rest part =
    let n = part.count in
    prefix_of (take n first) (drop n first ++ rest) (first ++ rest)
    (ap (λ rows. rows ++ rest) (sym (take-append-drop n first)) ∙ append_assoc (take n first) (drop n first) rest) part.rows

pub then_added : {before later after : SheetRows} {rest : List Row} (first : List Row) → later.rows ≡ before.rows ++ first → AddsFirst later after rest → AddsFirst before after (first ++ rest)
then_added {before} {rest = rest} first so_far part =
    let n = part.count in
    prefix_of (first ++ take n rest) (drop n rest) (first ++ rest)
    (ap (λ rows. first ++ rows) (sym (take-append-drop n rest)) ∙ sym (append_assoc first (take n rest) (drop n rest)))
    (part.rows ∙ ap (λ rows. rows ++ take n rest) so_far ∙ append_assoc before.rows first (take n rest))

-- a call that stops where memory ran out has added a prefix
pub adds_stopped : {T E : Type 0} {before after : SheetRows} {added : List Row} (P : E → Type 0) (result : Result T E) → IsErrAnd result P → AddsFirst before after added → Adds result before after added
adds_stopped P (Ok x) failed part = absurd failed
adds_stopped P (Err e) failed part = part

-- one row
pub adds_one : {T E : Type 0} (before after : SheetRows) (row : Row) (result : Result T E) → OnOk result (after ≡ with_row before row) → OnErr result (after.rows ≡ before.rows) → Adds result before after (row ∷ [])
adds_one before after row (Ok x) ok err = record { rows = ap (λ (s : SheetRows). s.rows) ok; closed = ap (λ (s : SheetRows). s.row) ok }
adds_one before after row (Err e) ok err = adds_none (row ∷ []) err

-- first these rows, then those
pub adds_then : {T E : Type 0} (before later after : SheetRows) (first rest : List Row) (result : Result T E) → later.rows ≡ before.rows ++ first → Adds result later after rest → Adds result before after (first ++ rest)
adds_then before later after first rest (Ok x) so_far step = record {
  rows = step.rows ∙ ap (λ rows. rows ++ rest) so_far ∙ append_assoc before.rows first rest;
  closed = step.closed;
}
adds_then before later after first rest (Err e) so_far step = then_added first so_far step
