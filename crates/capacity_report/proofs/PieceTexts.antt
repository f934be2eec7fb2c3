-- The texts of a journal's pieces, one after the other, are the text of its rows.
use Rattle.std.proofs.Common.{◌≡◌, ℕ, suc, List, Global, [], ◌∷◌, ◌++◌, map, sym, ap, subst, refl, ◌∙◌, append-nil, append_assoc, arith}
use Rattle.std.specs.Prelude.{All, IfOk, Ok}
use Rattle.std.specs.List.{flat_map}
use Rattle.std.specs.declared.vec.Vec.{Vec}
use Rattle.std.proofs.lemmas.List.Concat.{flat_map-append}
use Rattle.std.proofs.lemmas.List.Elements.{All-cons}
use Rattle.rayon.proofs.ListFacts.{All-parts}
use Rattle.plan_model.specs.declared.journal.Entry.{Entry}
use Rattle.row_text.specs.SheetRows.{text_of_row, text_of_rows}
use Rattle.capacity_report.specs.declared.journal_pieces.Piece.{Piece}
use Rattle.capacity_report.specs.Pieces.{AreFilled}
use Rattle.capacity_report.specs.Rows.{act_rows, rows_of_journal}

abbrev pub entries_of : List Piece → List Entry
entries_of = flat_map (λ p. p.entries.items)

-- what all entries keep, those of each piece keep
pub in_pieces : (P : Entry → Type 0) (pieces : List Piece) → All P (entries_of pieces) → All (λ p. All P p.entries.items) pieces
in_pieces P [] all = λ k d l. absurd (omega (arith, l))
in_pieces P (p ∷ pieces) all =
    let parts = All-parts P p.entries.items (entries_of pieces) all in
    All-cons (λ q. All P q.entries.items) p pieces parts.0 (in_pieces P pieces parts.1)

-- a piece is closed by one entry more
pub piece_closed : (pieces : List Piece) (piece : Piece) (entries rest journal : List Entry) (entry : Entry) → piece.entries.items ≡ entries ++ entry ∷ []
    → entries_of pieces ++ (entries ++ entry ∷ rest) ≡ journal → entries_of (pieces ++ piece ∷ []) ++ rest ≡ journal
piece_closed pieces piece entries rest journal entry is so_far =
    ap (λ es. es ++ rest) (flat_map-append (λ p. p.entries.items) pieces (piece ∷ []) ∙ ap (λ es. entries_of pieces ++ es) (append-nil piece.entries.items ∙ is))
    ∙ append_assoc (entries_of pieces) (entries ++ entry ∷ []) rest
    ∙ ap (λ es. entries_of pieces ++ es) (append_assoc entries (entry ∷ []) rest)
    ∙ so_far

-- the text of entries, and then that of others
pub texts_joined : (xs ys : List Entry) → text_of_rows (rows_of_journal (xs ++ ys)) ≡ text_of_rows (rows_of_journal xs) ++ text_of_rows (rows_of_journal ys)
texts_joined xs ys =
    ap text_of_rows (flat_map-append (λ (e : Entry). act_rows e.act) xs ys)
    ∙ flat_map-append text_of_row (rows_of_journal xs) (rows_of_journal ys)

-- the bytes of texts, one after the other, and those of the texts of several pieces
abbrev pub text_of : Vec (Vec ℕ Global) Global → List ℕ
text_of texts = flat_map (λ t. t.items) texts.items

abbrev pub all_of : List (Vec (Vec ℕ Global) Global) → List ℕ
all_of = flat_map text_of

pub texts_of_pieces : (old new : List Piece) (made : List (Vec (Vec ℕ Global) Global)) → AreFilled old new → map (λ p. p.texts) new ≡ map Ok made
    → all_of made ≡ text_of_rows (rows_of_journal (entries_of old))
texts_of_pieces [] [] [] filled is = refl
texts_of_pieces [] [] (t ∷ made) filled is = absurd (cc)
texts_of_pieces [] (n ∷ new) made filled is = absurd (omega (arith, filled.count))
texts_of_pieces (o ∷ old) [] made filled is = absurd (omega (arith, filled.count))
texts_of_pieces (o ∷ old) (n ∷ new) [] filled is = absurd (cc)
texts_of_pieces (o ∷ old) (n ∷ new) (t ∷ made) filled is =
    let first : n.texts ≡ Ok t = cc in
    let later : map (λ p. p.texts) new ≡ map Ok made = cc in
    let text : flat_map (λ (u : Vec ℕ Global). u.items) t.items ≡ text_of_rows (rows_of_journal o.entries.items) =
    subst (λ m. IfOk m (λ texts. flat_map (λ u. u.items) texts.items ≡ text_of_rows (rows_of_journal o.entries.items))) first (filled.each 0 o (omega arith)) in
    let rest = texts_of_pieces old new made (record { count = omega (arith, filled.count); each = λ i d l. filled.each (suc i) d (omega (arith, l)) }) later in
    ap (λ xs. xs ++ all_of made) text
    ∙ ap (λ xs. text_of_rows (rows_of_journal o.entries.items) ++ xs) rest
    ∙ sym (texts_joined o.entries.items (entries_of old))
