-- The records that a reader has given so far are the first of the records of the text.
use Rattle.std.proofs.Common.{◌≡◌, ◌⊎◌, ℕ, zero, suc, ◌+◌, ◌≤◌, List, [], ◌∷◌, ◌++◌, length, Some, None, refl, ap, inl, inr, arith, subst}
use Rattle.std.proofs.Common.{Bor, true, false, ◌∙◌}
use Rattle.std.proofs.lemmas.Bool.{cases_Bool}
use Rattle.csv.specs.Machine.{Read, next_record, step, is_end, fields_after, field_after, ends_at_end}
use Rattle.csv.specs.Reading.{Reached, records_from, strip_bom}
use Rattle.csv.specs.declared.parser.Config.{Config}
use Rattle.csv.specs.declared.parser.State.{State}
use Rattle.csv.specs.declared.parser.State.TheVariants as st
use Rattle.csv.specs.declared.reader.Reader.{Reader}
use Rattle.csv.specs.Reading.{ReadRecord, default_config}
use Rattle.csv.proofs.ReadFacts.{rows-more, rows-end}
use Rattle.std.proofs.lemmas.List.{append-nil}
use Rattle.row_text.specs.Rows.{rows_of, HasRead}
use Rattle.row_text.specs.SheetRows.{Row}

-- a record takes a byte, or ends the text
abbrev Takes : List ℕ → Read → Type 0
Takes xs p = (suc (length p.2) ≤ length xs) ⊎ ((p.1 ≡ st.StartRecord) × (p.2 ≡ []))

next_record-takes : (cfg : Config) (s : State) (fields : List (List ℕ)) (field xs : List ℕ) (p : Read) → next_record cfg s fields field xs ≡ Some p → Takes xs p
unfolding next_record
next_record-takes cfg s fields field [] p e =
    let a : Read = (fields ++ field ∷ [], st.StartRecord, []) in
    elim (cases_Bool (ends_at_end s)) [
      | inl t ↦ let same : a ≡ p = cc (rw t at e) in subst (Takes []) same (inr (refl, refl))
      | inr f ↦ absurd (cc (rw f at e))
    ]
next_record-takes cfg s fields field (c ∷ rest) p e =
    let a : Read = (fields_after (step cfg s c).1 fields field, (step cfg s c).0, rest) in
    elim (cases_Bool (is_end (step cfg s c).1)) [
      | inl t ↦ let same : a ≡ p = cc (rw t at e) in subst (Takes (c ∷ rest)) same (inl (omega arith))
      | inr f ↦ elim (next_record-takes cfg (step cfg s c).0 (fields_after (step cfg s c).1 fields field) (field_after (step cfg s c).1 c field) rest p (rw f at e)) [
        | inl lt ↦ inl (omega arith)
        | inr last ↦ inl (omega (arith, ap length last.1))
      ]
    ]

-- there is at most one record more than there are bytes
pub Reached-length : (cfg : Config) (s : State) (xs : List ℕ) (rows : List (List (List ℕ))) (s2 : State) (ys : List ℕ) → Reached cfg s xs rows s2 ys → length rows ≤ length xs + 1
unfolding Reached next_record
Reached-length cfg s xs [] s2 ys h = omega arith
Reached-length cfg s xs (r ∷ []) s2 ys h = omega arith
Reached-length cfg s xs (r ∷ q ∷ rows) s2 ys h =
    let rest = Reached-length cfg h.0.1 h.0.2 (q ∷ rows) s2 ys h.3 in
    elim (next_record-takes cfg s [] [] xs h.0 h.1) [
      | inl lt ↦ omega (arith, rest)
      | inr last ↦ absurd (no_more cfg h.0.1 h.0.2 h.3.0 last.0 last.1 h.3.1)
    ]
  where
    no_more : (cfg : Config) (s : State) (xs : List ℕ) (p : Read) → s ≡ st.StartRecord → xs ≡ [] → next_record cfg s [] [] xs ≡ Some p → ⊥
    no_more cfg s xs p a b e = cc (rw (a, b) at e)

-- with enough turns, the records of a text are those that were reached, and those of the rest
pub records_from-Reached : (cfg : Config) (n : ℕ) (s : State) (xs : List ℕ) (rows : List (List (List ℕ))) (s2 : State) (ys : List ℕ) → Reached cfg s xs rows s2 ys → length rows ≤ n
    → (m : ℕ) × (records_from cfg n s xs ≡ rows ++ records_from cfg m s2 ys)
unfolding Reached records_from
records_from-Reached cfg n s xs [] s2 ys h le = (n, rw (h.0, h.1) refl)
records_from-Reached cfg zero s xs (r ∷ rows) s2 ys h le = absurd (omega arith)
records_from-Reached cfg (suc n) s xs (r ∷ rows) s2 ys h le =
    let rest = records_from-Reached cfg n h.0.1 h.0.2 rows s2 ys h.3 (omega arith) in
    (rest.0, rw (h.1, h.2, rest.1) refl)

-- no record comes after the last
pub records_from-end : (cfg : Config) (n : ℕ) (s : State) (xs : List ℕ) → next_record cfg s [] [] xs ≡ None → records_from cfg n s xs ≡ []
unfolding records_from
records_from-end cfg zero s xs e = refl
records_from-end cfg (suc n) s xs e = rw e refl

-- after one row more
pub HasRead-more : (old new : Reader (Bor (List ℕ))) (text rest : List ℕ) (rows : List Row) (row : Row) → HasRead old text rest rows → ReadRecord (λ s. Some s.now) old new true row → new.first ≡ true
    → (more : List ℕ) × HasRead new text more (rows ++ row ∷ [])
HasRead-more old new text rest rows row has step first =
    let next = rows-more (λ (s : Bor (List ℕ)). Some s.now) old new row default_config st.StartRecord (strip_bom text) rest rows has.config has.source has.reached step in
    (next.0, record { trim = step.3 ∙ has.trim; ready = inl first; config = step.2 ∙ has.config; source = next.1; reached = next.2 })

-- at the end of the text
pub HasRead-end : (old new : Reader (Bor (List ℕ))) (text rest : List ℕ) (rows : List Row) (row : Row) → HasRead old text rest rows → ReadRecord (λ s. Some s.now) old new false row → rows_of text ≡ rows
HasRead-end old new text rest rows row has step =
    let none = rows-end (λ (s : Bor (List ℕ)). Some s.now) old new row default_config rest has.config has.source step in
    let all = records_from-Reached default_config (length (strip_bom text) + 1) st.StartRecord (strip_bom text) rows old.state rest has.reached (Reached-length default_config st.StartRecord (strip_bom text) rows old.state rest has.reached) in
    all.1 ∙ ap (λ more. rows ++ more) (records_from-end default_config all.0 old.state rest none) ∙ append-nil rows
