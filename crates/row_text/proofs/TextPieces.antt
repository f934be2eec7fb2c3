-- A text without double quotes that is read in pieces gives the rows of the whole text.
use Rattle.std.proofs.Common.{◌≡◌, ◌≢◌, ℕ, ◌+◌, ◌-◌, ◌<◌, ◌≤◌, ◌==◌, true, false, List, [], ◌∷◌, ◌++◌, length, IsTrue, get_or, take, drop, slice_range, refl, ap, sym, ◌∙◌, subst, inl, inr, arith}
use Rattle.std.proofs.lemmas.Bool.{cases_Bool}
use Rattle.std.proofs.lemmas.List.{append-nil, drop_all, drop_more, drop-drop, get_or-drop, length-drop, take-append-drop, take-take, take_more, take_rest}
use Rattle.std.proofs.lemmas.List.Elements.{All-drop, All-nil, All-take}
use Rattle.row_text.specs.PlainRows.{cut_rows, ends_line, with_line, is_blank}
use Rattle.row_text.specs.Rows.{rows_of}
use Rattle.row_text.specs.SheetRows.{Row}
use Rattle.row_text.specs.TextPieces.{HasNoMark, IsPlain}
use Rattle.row_text.proofs.PlainReads.{cut-byte, cut-comma, cut-line, cut-none, rows_of-plain, strip_bom-none}

-- the rows of a plain text are cut from it
rows-cut : (text : List ℕ) → IsPlain text → rows_of text ≡ cut_rows [] [] text
rows-cut text plain = rows_of-plain text plain.no_quote (strip_bom-none text plain.no_mark)

-- no text
pub plain-nil : IsPlain []
plain-nil = record { no_quote = All-nil (λ byte. byte ≢ 34); no_mark = λ e. cc e }

pub rows_of-nil : rows_of [] ≡ []
rows_of-nil = rows-cut [] plain-nil ∙ cut-none [] []

-- the row of a line stands before the others
with_line-append : (fields : Row) (field : List ℕ) (rows more : List Row) → with_line fields field (rows ++ more) ≡ with_line fields field rows ++ more
with_line-append fields field rows more =
    elim (cases_Bool (is_blank fields field)) [ inl t ↦ rw t refl | inr f ↦ rw f refl ]

-- the end of a line parts the rows before it from those after it
cut-parts : (fields : Row) (field before : List ℕ) (c : ℕ) (rest : List ℕ) → ends_line c ≡ true
    → cut_rows fields field (before ++ c ∷ rest) ≡ cut_rows fields field (before ++ c ∷ []) ++ cut_rows [] [] rest
cut-parts fields field [] c rest line =
    rw (cut-line fields field c rest line, cut-line fields field c [] line, cut-none [] []) (with_line-append fields field [] (cut_rows [] [] rest))
cut-parts fields field (b ∷ before) c rest line =
    elim (cases_Bool (ends_line b)) [
      | inl t ↦ rw (cut-line fields field b (before ++ c ∷ rest) t, cut-line fields field b (before ++ c ∷ []) t, cut-parts [] [] before c rest line)
          (with_line-append fields field (cut_rows [] [] (before ++ c ∷ [])) (cut_rows [] [] rest))
      | inr f ↦ elim (cases_Bool (b == 44)) [
        | inl t ↦ rw (cut-comma fields field b (before ++ c ∷ rest) t, cut-comma fields field b (before ++ c ∷ []) t) (cut-parts (fields ++ field ∷ []) [] before c rest line)
        | inr g ↦ rw (cut-byte fields field b (before ++ c ∷ rest) g f, cut-byte fields field b (before ++ c ∷ []) g f) (cut-parts fields (field ++ b ∷ []) before c rest line)
      ]
    ]

-- the first bytes of a plain text are plain
pub plain-take : (n : ℕ) (text : List ℕ) → IsPlain text → 0 < n → IsPlain (take n text)
plain-take n text plain some =
    record { no_quote = All-take (λ byte. byte ≢ 34) n text plain.no_quote; no_mark = λ e. plain.no_mark (sym (take-take 1 n text (omega arith)) ∙ e) }

-- where a line ends, the rows of a plain text are those of the bytes up to there and those of the rest
line-pieces : (text : List ℕ) (n : ℕ) → IsPlain text → n < length text → ends_line (get_or text n 0) ≡ true → HasNoMark (drop (n + 1) text)
    → (rows_of text ≡ rows_of (take (n + 1) text) ++ rows_of (drop (n + 1) text)) × IsPlain (drop (n + 1) text)
line-pieces text n plain there line no_mark =
    let rest : IsPlain (drop (n + 1) text) = record { no_quote = All-drop (λ byte. byte ≢ 34) (n + 1) text plain.no_quote; no_mark = no_mark } in
    let c = get_or text n 0 in
    let whole : cut_rows [] [] text ≡ cut_rows [] [] (take n text ++ c ∷ drop (n + 1) text) =
    ap (cut_rows [] []) (sym (take-append-drop n text) ∙ ap (λ more. take n text ++ more) (drop_more text n 0 there)) in
    let first : rows_of (take (n + 1) text) ≡ cut_rows [] [] (take n text ++ c ∷ []) =
    rows-cut (take (n + 1) text) (plain-take (n + 1) text plain (omega arith)) ∙ ap (cut_rows [] []) (take_more text n 0 there) in (
      rw (first, rows-cut (drop (n + 1) text) rest) (rows-cut text plain ∙ whole ∙ cut-parts [] [] (take n text) c (drop (n + 1) text) line),
      rest,
    )

-- the rows of what is left of a text are those of a piece and then those of the rest, which is plain
abbrev pub Parts : List ℕ → ℕ → ℕ → Type 0
Parts text from end = (rows_of (drop from text) ≡ rows_of (slice_range text from end) ++ rows_of (drop end text)) × IsPlain (drop end text)

-- a piece that ends where a line ends
pub parts-line : (text : List ℕ) (from i : ℕ) → IsPlain (drop from text) → from ≤ i → i < length text → true ≡ ends_line (get_or text i 0)
    → (take 1 (slice_range text (i + 1) (length text)) ≡ 0xEF ∷ [] → IsTrue false) → Parts text from (i + 1)
parts-line text from i plain after there line no_mark =
    let n : ℕ = i - from in
    let long : n + 1 ≡ i + 1 - from = omega (arith, after) in
    let at : from + n ≡ i = omega (arith, after) in
    let past : from + (n + 1) ≡ i + 1 = omega (arith, after) in
    let rest : drop (n + 1) (drop from text) ≡ drop (i + 1) text = drop-drop (n + 1) from text ∙ ap (λ place. drop place text) past in
    let ends : ends_line (get_or (drop from text) n 0) ≡ true = rw (get_or-drop from text n 0, at) (sym line) in
    let free : HasNoMark (drop (n + 1) (drop from text)) = subst HasNoMark (take_rest text (i + 1) ∙ sym rest) (λ e. cc (no_mark e)) in
    let its = line-pieces (drop from text) n plain (omega (arith, length-drop from text)) ends free in
    rw (rest, long) at its

-- the last piece
pub parts-all : (text : List ℕ) (from : ℕ) → Parts text from (length text)
parts-all text from =
    let none : drop (length text) text ≡ [] = drop_all (length text) text (omega arith) in
    rw (none, rows_of-nil, append-nil (rows_of (slice_range text from (length text))), take_rest text from) (refl, plain-nil)
