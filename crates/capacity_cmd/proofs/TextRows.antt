-- The rows of a text that are read piece by piece.
use Rattle.std.proofs.Common.{◌≡◌, ◌⊎◌, ℕ, ◌+◌, ◌<◌, ◌≤◌, ◌^◌, Bool, true, false, List, [], ◌∷◌, ◌++◌, ◌-◌, get_or, take, drop, length, refl, sym, ap, subst, ◌∙◌, Result, Ok, Err, inl, inr, arith, length-append, zero-add}
use Rattle.std.proofs.lemmas.Bool.{cases_Bool}
use Rattle.std.proofs.lemmas.List.{append-nil, length-drop, get_or-drop, get_or_append_left, drop-drop, drop_at, drop_all}
use Rattle.row_text.specs.SheetRows.{Row}
use Rattle.row_text.specs.Rows.{rows_of}
use Rattle.row_text.specs.Lines.{first_line, version_of, has_version_row}
use Rattle.capacity_cmd.specs.Types.{TextRows}
use Rattle.std.specs.Prelude.{slice_range}
use Rattle.rail_model.specs.declared.form.Form.{Form}
use Rattle.capacity_cmd.specs.declared.refusal.Refusal.{Refusal}
use Rattle.capacity_cmd.specs.declared.stopped.Stopped.{Stopped}
use Rattle.capacity_cmd.specs.declared.stopped.Stopped.TheVariants.{Refused, OutOfMemory}
use Rattle.capacity_cmd.specs.Stopped.{Gives}
use Rattle.capacity_cmd.specs.Input.{content_in, content_of_rows}
use Rattle.capacity_cmd.specs.InputSoFar.{accepted_in}
use Rattle.row_text.specs.TextPieces.{IsPlain}
use Rattle.row_text.proofs.TextPieces.{plain-nil, rows_of-nil}
use Rattle.capacity_cmd.proofs.RowCount.{row_count}
use Rattle.capacity_cmd.specs.TextRows.{AreLeft, BeginsWith, AreRowsOf}

module _ (all piece rest : List Row) (before : ℕ) (rows : drop before all ≡ piece ++ rest) where
  -- a row of a piece, among all rows
  pub row_at : (i : ℕ) → i < length piece → get_or all (before + i) [] ≡ get_or piece i []
  row_at i below =
      sym (get_or-drop before all i []) ∙ ap (λ (rs : List Row). get_or rs i []) rows ∙ get_or_append_left piece rest [] i below

  pub piece_within : before ≤ length all → before + length piece ≤ length all
  piece_within few = omega (arith, ap length rows, length-append piece rest, length-drop before all, few)

  pub after_piece : drop (before + length piece) all ≡ rest
  after_piece = sym (drop-drop (length piece) before all) ∙ ap (drop (length piece)) rows ∙ drop_at piece rest (length piece) refl

-- a row of a text, counted among all
pub row_counted : (piece : TextRows) → AreRowsOf piece → (i : ℕ) → i < length piece.rows.now → piece.before + i < length (rows_of piece.text.now)
row_counted piece are i below =
    omega (arith, piece_within (rows_of piece.text.now) piece.rows.now are.rest piece.before are.rows are.few, below)

-- so its number can be counted
pub row_small : (piece : TextRows) → AreRowsOf piece → (i : ℕ) → i < length piece.rows.now → length piece.text.now < 2 ^ 63 → piece.before + i < 2 ^ 63
row_small piece are i below small = omega (arith, row_counted piece are i below, row_count piece.text.now, small)

-- a piece of what is left of a text, and what is left after it
module _ (text : List ℕ) (from end before : ℕ) (piece : List Row) (left : AreLeft text from before) (within : end ≤ length text)
    (parts : rows_of (drop from text) ≡ rows_of (slice_range text from end) ++ rows_of (drop end text)) (plain : IsPlain (drop end text))
    (is : piece ≡ rows_of (slice_range text from end)) where
  pub piece_rows : drop before (rows_of text) ≡ piece ++ rows_of (drop end text)
  piece_rows = left.rows ∙ parts ∙ ap (λ (rows : List Row). rows ++ rows_of (drop end text)) (sym is)

  pub left_after : AreLeft text end (before + length piece)
  left_after = record {
    within = within;
    plain = plain;
    rows = after_piece (rows_of text) piece (rows_of (drop end text)) before piece_rows;
    few = piece_within (rows_of text) piece (rows_of (drop end text)) before piece_rows left.few;
  }

pub some_rows : (is_empty : Bool) (rows : List Row) → is_empty ≡ false → (rows ≡ [] → is_empty ≡ true) → 0 < length rows
some_rows is_empty [] not none = absurd (let both : true ≡ false = sym (none refl) ∙ not in cc)
some_rows is_empty (row ∷ rows) not none = omega arith

-- a text begins with the rows of its first piece, and with all its rows
pub begins_with_piece : (text : List ℕ) (end : ℕ) (first : List Row) → end ≤ length text → rows_of text ≡ rows_of (slice_range text 0 end) ++ rows_of (drop end text)
    → IsPlain (drop end text) → first ≡ rows_of (take end text) → 0 < length first → BeginsWith text first end
begins_with_piece text end first within parts plain read some =
    let whole : end ≡ end - 0 = omega arith in
    let is : first ≡ rows_of (slice_range text 0 end) = read ∙ ap (λ n. rows_of (take n text)) whole in
    record {
      rows = parts ∙ ap (λ (rows : List Row). rows ++ rows_of (drop end text)) (sym is);
      within = within;
      plain = plain;
      some = inl some;
    }

some_or_none : (rows : List Row) → (0 < length rows) ⊎ (rows ≡ [])
some_or_none [] = inr refl
some_or_none (row ∷ rows) = inl (omega arith)

pub begins_with_all : (text : List ℕ) (all : List Row) → all ≡ rows_of text → BeginsWith text all (length text)
begins_with_all text all is =
    let none : drop (length text) text ≡ [] = drop_all (length text) text (omega arith) in
    subst (λ (rows : List Row). BeginsWith text rows (length text)) (sym is) (record {
      rows = rw (none, rows_of-nil, append-nil (rows_of text)) refl;
      within = omega arith;
      plain = rw none plain-nil;
      some = some_or_none (rows_of text);
    })

-- the row that says the version stands in the first piece
head_of : (first rest : List Row) → (0 < length first) ⊎ (first ++ rest ≡ []) → get_or (first ++ rest) 0 [] ≡ get_or first 0 []
head_of [] rest (inl some) = absurd (omega (arith, some))
head_of [] rest (inr none) = ap (λ (rs : List Row). get_or rs 0 []) none
head_of (row ∷ first) rest some = refl

module _ (text : List ℕ) (first : List Row) (end : ℕ) (begins : BeginsWith text first end) where
  same_head : get_or (rows_of text) 0 [] ≡ get_or first 0 []
  same_head =
      ap (λ (rs : List Row). get_or rs 0 []) begins.rows
      ∙ head_of first (rows_of (drop end text)) (elim begins.some [ inl some ↦ inl some | inr none ↦ inr (sym begins.rows ∙ none) ])

  -- the others are left
  pub left_of_first : AreLeft text end (length first)
  left_of_first =
      let all : drop 0 (rows_of text) ≡ first ++ rows_of (drop end text) = begins.rows in
      record {
        within = begins.within;
        plain = begins.plain;
        rows = subst (λ n. drop n (rows_of text) ≡ rows_of (drop end text)) (zero-add (length first)) (after_piece (rows_of text) first (rows_of (drop end text)) 0 all);
        few = subst (λ n. n ≤ length (rows_of text)) (zero-add (length first)) (piece_within (rows_of text) first (rows_of (drop end text)) 0 all (omega arith));
      }

  pub same_version : version_of (rows_of text) ≡ version_of first
  same_version = rw same_head refl

  pub same_first_line : first_line (rows_of text) ≡ first_line first
  same_first_line = rw same_head refl

pub first_line_within : (rows : List Row) → first_line rows ≤ length rows
first_line_within [] = omega arith
first_line_within (row ∷ rows) =
    elim (cases_Bool (has_version_row (row ∷ rows))) [
      | inl t ↦ rw t (omega arith)
      | inr f ↦ rw f (omega arith)
    ]

-- ---- the answer

-- a stop is that of the whole
pub stopped : (planners version : ℕ) (all : List Row) (why : Stopped Refusal) → version_of all ≡ Ok version
    → Gives (content_in planners (Ok version) all) (Err why) → Gives (accepted_in (content_of_rows planners all)) (Err why)
stopped planners version all (Refused refusal) known is =
    ap (λ (v : Result ℕ Form). accepted_in (content_in planners v all)) known ∙ ap accepted_in is
stopped planners version all OutOfMemory known is = tt
