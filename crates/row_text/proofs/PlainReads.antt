-- A text without double quotes reads as CSV by cuts at its commas and at the ends of its lines.
use Rattle.std.proofs.Common.{◌≡◌, ◌≢◌, ◌⊎◌, ℕ, zero, suc, ◌≤◌, ◌==◌, cond, true, false, List, [], ◌∷◌, ◌++◌, length, Some, None, refl, ap, sym, ◌∙◌, inl, inr, arith, add-one, take}
use Rattle.std.proofs.lemmas.Bool.{cases_Bool, eqb-true, ne_eqb}
use Rattle.std.proofs.Math.Bool.{and-false}
use Rattle.std.proofs.Math.Nat.{le_refl}
use Rattle.std.proofs.lemmas.Bool.Decides.{nat_tests}
use Rattle.std.proofs.lemmas.List.{length-append}
use Rattle.std.proofs.lemmas.List.Elements.{All-head, All-tail}
use Rattle.csv.specs.Machine.{next_record, step, is_end, fields_after, field_after, ends_at_end, after_end}
use Rattle.csv.specs.Reading.{default_config, records_from, records_next, strip_bom}
use Rattle.csv.specs.declared.parser.State.{State}
use Rattle.csv.specs.declared.parser.State.TheVariants as st
use Rattle.csv.specs.declared.parser.Action.{Action}
use Rattle.csv.specs.declared.parser.Action.TheVariants as act
use Rattle.csv.specs.declared.parser.Terminator.TheVariants as term
use Rattle.row_text.specs.PlainRows.{cut_rows, ends_line, HasNoQuote, is_blank, with_line}
use Rattle.row_text.specs.SheetRows.{Row}
use Rattle.row_text.specs.Rows.{rows_of}
use Rattle.row_text.proofs.Records.{records_from-end}

-- the reader stands between two lines, or in a line
abbrev Between : State → Type 0
Between s = (s ≡ st.StartRecord) ⊎ (s ≡ st.AfterCr)

abbrev Inside : State → Type 0
Inside s = (s ≡ st.StartField) ⊎ (s ≡ st.InField)

-- with nothing at hand it stands between two lines, and otherwise in a line
abbrev Stands : State → Row → List ℕ → Type 0
Stands s fields field = (Between s × (fields ≡ []) × (field ≡ [])) ⊎ (Inside s × (is_blank fields field ≡ false))

-- a byte that ends no line, and one that does
no-line : (c : ℕ) → ends_line c ≡ false → ((c == 13) ≡ false) × ((c == 10) ≡ false)
no-line c on =
    elim (cases_Bool (c == 13)) [
      | inl t ↦ absurd (cc (rw t at on))
      | inr f ↦ (f, rw f at on)
    ]

line-cases : (c : ℕ) → ends_line c ≡ true → (c ≡ 13) ⊎ (c ≡ 10)
line-cases c ends =
    elim (cases_Bool (c == 13)) [
      | inl t ↦ inl (eqb-true c 13 t)
      | inr f ↦ inr (eqb-true c 10 (rw f at ends))
    ]

-- the step of a byte that ends no line
step-byte : (s : State) (c : ℕ) → (Between s ⊎ Inside s) → c ≢ 34 → ends_line c ≡ false → step default_config s c ≡ cond (c == 44) (st.StartField, act.EndField) (st.InField, act.Copy)
step-byte s c stands plain on =
    let quote : (c == 34) ≡ false = ne_eqb c 34 plain in
    let return : (c == 13) ≡ false = (no-line c on).0 in
    let feed : (c == 10) ≡ false = (no-line c on).1 in
    elim stands [
      | inl (inl e) ↦ rw (e, return, feed, quote) refl
      | inl (inr e) ↦ rw (e, feed, return, quote) refl
      | inr (inl e) ↦ rw (e, quote, return, feed) refl
      | inr (inr e) ↦ rw (e, return, feed) refl
    ]

-- the step of a byte that ends a line
step-line : (s : State) (c : ℕ) → Inside s → ends_line c ≡ true → step default_config s c ≡ (after_end term.CRLF c, act.EndRecord)
step-line s c inside ends =
    elim (line-cases c ends) [
      | inl is ↦ elim inside [ inl e ↦ rw (e, is) refl | inr e ↦ rw (e, is) refl ]
      | inr is ↦ elim inside [ inl e ↦ rw (e, is) refl | inr e ↦ rw (e, is) refl ]
    ]

-- the step of one where nothing stands in the line
step-blank : (s : State) (c : ℕ) → Between s → ends_line c ≡ true → step default_config s c ≡ (st.StartRecord, act.Skip)
step-blank s c between ends =
    elim (line-cases c ends) [
      | inl is ↦ elim between [ inl e ↦ rw (e, is) refl | inr e ↦ rw (e, is) refl ]
      | inr is ↦ elim between [ inl e ↦ rw (e, is) refl | inr e ↦ rw (e, is) refl ]
    ]

-- what a byte's step makes of the next record
next-step : (s : State) (fields : Row) (field : List ℕ) (c : ℕ) (rest : List ℕ) (p : State × Action) → step default_config s c ≡ p
    → next_record default_config s fields field (c ∷ rest)
    ≡ cond (is_end p.1) (Some (fields_after p.1 fields field, p.0, rest)) (next_record default_config p.0 (fields_after p.1 fields field) (field_after p.1 c field) rest)
unfolding next_record
next-step s fields field c rest p e =
    ap (λ (q : State × Action). cond (is_end q.1) (Some (fields_after q.1 fields field, q.0, rest)) (next_record default_config q.0 (fields_after q.1 fields field) (field_after q.1 c field) rest)) e

next-end : (s : State) (fields : Row) (field : List ℕ) → next_record default_config s fields field [] ≡ cond (ends_at_end s) (Some (fields ++ field ∷ [], st.StartRecord, [])) None
unfolding next_record
next-end s fields field = refl

between-end : (s : State) → Between s → ends_at_end s ≡ false
between-end s between = elim between [ inl e ↦ rw e refl | inr e ↦ rw e refl ]

inside-end : (s : State) → Inside s → ends_at_end s ≡ true
inside-end s inside = elim inside [ inl e ↦ rw e refl | inr e ↦ rw e refl ]

after-line : (c : ℕ) → Between (after_end term.CRLF c)
after-line c = elim (cases_Bool (c == 13)) [ inl t ↦ inr (rw t refl) | inr f ↦ inl (rw f refl) ]

with_field : (fields : Row) (field : List ℕ) → is_blank (fields ++ field ∷ []) [] ≡ false
with_field fields field =
    let some : (length (fields ++ field ∷ []) == 0) ≡ false = ne_eqb _ 0 (λ none. omega (arith, length-append fields (field ∷ []))) in
    rw some refl

with_byte : (fields : Row) (field : List ℕ) (c : ℕ) → is_blank fields (field ++ c ∷ []) ≡ false
with_byte fields field c =
    let some : (length (field ++ c ∷ []) == 0) ≡ false = ne_eqb _ 0 (λ none. omega (arith, length-append field (c ∷ []))) in
    rw some (and-false (length fields == 0))

-- what cuts make of a byte
pub cut-comma : (fields : Row) (field : List ℕ) (c : ℕ) (rest : List ℕ) → (c == 44) ≡ true → cut_rows fields field (c ∷ rest) ≡ cut_rows (fields ++ field ∷ []) [] rest
unfolding cut_rows
cut-comma fields field c rest e = rw e refl

pub cut-line : (fields : Row) (field : List ℕ) (c : ℕ) (rest : List ℕ) → ends_line c ≡ true → cut_rows fields field (c ∷ rest) ≡ with_line fields field (cut_rows [] [] rest)
unfolding cut_rows
cut-line fields field c rest e =
    let comma : (c == 44) ≡ false = grind (arith, nat_tests) in
    rw (comma, e) refl

pub cut-byte : (fields : Row) (field : List ℕ) (c : ℕ) (rest : List ℕ) → (c == 44) ≡ false → ends_line c ≡ false → cut_rows fields field (c ∷ rest) ≡ cut_rows fields (field ++ c ∷ []) rest
unfolding cut_rows
cut-byte fields field c rest e f = rw (e, f) refl

pub cut-none : (fields : Row) (field : List ℕ) → cut_rows fields field [] ≡ with_line fields field []
unfolding cut_rows
cut-none fields field = refl

-- no rows are left at the end of a text
no-more : (n : ℕ) → records_from default_config n st.StartRecord [] ≡ []
no-more n = records_from-end default_config n st.StartRecord [] (next-end st.StartRecord [] [])

-- a reader of CSV reads on as the cuts do
reads-on : (n : ℕ) (s : State) (fields : Row) (field xs : List ℕ) → HasNoQuote xs → Stands s fields field → length xs ≤ n
    → records_next (records_from default_config n) (next_record default_config s fields field xs) ≡ cut_rows fields field xs
unfolding records_from
reads-on n s fields field [] plain stands le =
    elim stands [
      | inl b ↦
          let none : with_line fields field [] ≡ [] = rw (b.1, b.2) refl in
          rw (next-end s fields field, between-end s b.0, cut-none fields field, none) refl
      | inr b ↦
          let row : with_line fields field [] ≡ (fields ++ field ∷ []) ∷ [] = rw b.1 refl in
          rw (next-end s fields field, inside-end s b.0, cut-none fields field, row, no-more n) refl
    ]
reads-on zero s fields field (c ∷ rest) plain stands le = absurd (omega arith)
reads-on (suc m) s fields field (c ∷ rest) plain stands le =
    let more = records_next (records_from default_config (suc m)) in
    let others : HasNoQuote rest = All-tail (λ byte. byte ≢ 34) c rest plain in
    let fits : length rest ≤ m = omega arith in
    let fit : length rest ≤ suc m = omega arith in
    elim (cases_Bool (ends_line c)) [
      | inl t ↦ elim stands [
        | inl b ↦ ap more (next-step s fields field c rest (st.StartRecord, act.Skip) (step-blank s c b.0 t)) ∙ rw (b.1, b.2) (reads-on (suc m) st.StartRecord [] [] rest others (inl (inl refl, refl, refl)) fit ∙ sym (cut-line [] [] c rest t))
        | inr b ↦ ap more (next-step s fields field c rest (after_end term.CRLF c, act.EndRecord) (step-line s c b.0 t))
            ∙ ap (λ rows. (fields ++ field ∷ []) ∷ rows) (reads-on m (after_end term.CRLF c) [] [] rest others (inl (after-line c, refl, refl)) fits)
            ∙ sym (cut-line fields field c rest t ∙ rw b.1 refl)
      ]
      | inr f ↦
          let at : Between s ⊎ Inside s = elim stands [ inl b ↦ inl b.0 | inr b ↦ inr b.0 ] in
          let byte = step-byte s c at (All-head (λ byte. byte ≢ 34) c rest plain) f in
          elim (cases_Bool (c == 44)) [
            | inl t ↦ ap more (next-step s fields field c rest (st.StartField, act.EndField) (byte ∙ rw t refl))
                ∙ reads-on (suc m) st.StartField (fields ++ field ∷ []) [] rest others (inr (inl refl, with_field fields field)) fit ∙ sym (cut-comma fields field c rest t)
            | inr g ↦ ap more (next-step s fields field c rest (st.InField, act.Copy) (byte ∙ rw g refl))
                ∙ reads-on (suc m) st.InField fields (field ++ c ∷ []) rest others (inr (inr refl, with_byte fields field c)) fit ∙ sym (cut-byte fields field c rest g f)
          ]
    ]

-- the rows of a text without double quotes and without a byte order mark
pub rows_of-plain : (text : List ℕ) → HasNoQuote text → strip_bom text ≡ text → rows_of text ≡ cut_rows [] [] text
unfolding records_from
rows_of-plain text plain whole = rw (whole, add-one) (reads-on (length text) st.StartRecord [] [] text plain (inl (inl refl, refl, refl)) (le_refl (length text)))

-- a text that starts with another byte has no byte order mark
pub strip_bom-none : (text : List ℕ) → (take 1 text ≡ 0xEF ∷ [] → ⊥) → strip_bom text ≡ text
unfolding strip_bom
strip_bom-none [] other = refl
strip_bom-none (a ∷ []) other = refl
strip_bom-none (a ∷ b ∷ []) other = refl
strip_bom-none (a ∷ b ∷ c ∷ rest) other =
    let mark : (a == 0xEF) ≡ false = ne_eqb a 0xEF (λ e. other (ap (λ first. first ∷ []) e)) in
    rw mark refl
