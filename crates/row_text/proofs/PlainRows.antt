-- A text that is cut at its commas and at the ends of its lines.
use Rattle.std.proofs.Common.{◌≡◌, ◌≢◌, ℕ, ◌+◌, ◌-◌, ◌<◌, ◌≤◌, ◌==◌, ◌&&◌, true, false, List, [], ◌∷◌, ◌++◌, length, get_or, take, drop, map, slice_range, zero, suc, sym, ap, subst, ◌∙◌, refl, arith, append_assoc}
use Rattle.std.proofs.lemmas.Bool.{and_parts, eq-eqb, eqb-true, ne_eqb}
use Rattle.std.proofs.lemmas.Bool.Decides.{nat_tests}
use Rattle.std.proofs.lemmas.List.{append-nil, drop_all, drop_more, drop-append-le, length-drop, length-take-le, length_push, map_push, take_all, take_more, take_rest}
use Rattle.std.proofs.lemmas.List.Edits.{between_more}
use Rattle.std.proofs.lemmas.List.Elements.{All-nil, All-push}
use Rattle.csv.specs.Records.{Rising, last_end}
use Rattle.csv.proofs.RecordFacts.{last-append, rising-end, rising-last, rising-more}
use Rattle.row_text.specs.Cuts.{CutsIn, fields_cut_at}
use Rattle.row_text.specs.Pieces.{pieces}
use Rattle.row_text.specs.PlainRows.{cut_rows, CutSoFar, ends_line, EndsField, Fits, HasCut, HasCutAll, HasNoQuote, is_blank, line_cuts, LineEnded, line_fields, rows_cut, with_line}
use Rattle.row_text.proofs.Cuts.{CutsIn-more, fields_cut_at-more, length-fields_cut_at}
use Rattle.row_text.proofs.Pieces.{pieces-more, pieces-push}
use Rattle.row_text.proofs.PlainReads.{cut-byte, cut-comma, cut-line, cut-none}

-- no bytes lie between a place and itself
none-there : (text : List ℕ) (i j : ℕ) → i ≡ j → slice_range text i j ≡ []
none-there text i j e =
    let none : j - i ≡ 0 = omega arith in
    rw none refl

-- the line at hand starts within the places
first-within : (text : List ℕ) (cut : CutSoFar) → Fits text cut → cut.first ≤ length cut.cuts
first-within text cut fits = omega (arith, rising-last 0 cut.ends (length cut.cuts) fits.rise, fits.first)

fields-long : (text : List ℕ) (cut : CutSoFar) → Fits text cut → length (line_fields text cut) + cut.first ≡ length cut.cuts
fields-long text cut fits =
    omega (arith, length-fields_cut_at text (line_cuts cut), length_push (drop cut.first cut.cuts) cut.start, length-drop cut.first cut.cuts, first-within text cut fits)

field-long : (text : List ℕ) (start i : ℕ) → start ≤ i → i ≤ length text → length (slice_range text start i) + start ≡ i
field-long text start i order within = omega (arith, length-take-le (i - start) (drop start text) (omega (arith, length-drop start text)))

-- a field was cut
line-step : (text : List ℕ) (old new : CutSoFar) (i : ℕ) → EndsField old new i → Fits text old → line_cuts new ≡ line_cuts old ++ (i + 1) ∷ []
line-step text old new i ended fits =
    rw (ended.first, ended.cuts, ended.start, drop-append-le old.first old.cuts (old.start ∷ []) (first-within text old fits)) refl

field-step : (text : List ℕ) (old new : CutSoFar) (i : ℕ) → EndsField old new i → Fits text old → old.start ≤ i → i ≤ length text
    → (rows_cut text new ≡ rows_cut text old) × (line_fields text new ≡ line_fields text old ++ slice_range text old.start i ∷ []) × Fits text new
field-step text old new i ended fits order within =
    let most = length text + 1 in
    let some : 0 < length (line_cuts old) = omega (arith, length_push (drop old.first old.cuts) old.start) in
    let last : last_end 0 (line_cuts old) ≡ old.start = last-append 0 (drop old.first old.cuts) old.start in
    let line : line_cuts new ≡ line_cuts old ++ (i + 1) ∷ [] = line-step text old new i ended fits in
    let before_end : (i + 1) - 1 ≡ i = omega arith in
    let same : pieces 0 new.ends new.cuts ≡ pieces 0 old.ends old.cuts =
    rw (ended.ends, ended.cuts) (pieces-more 0 old.ends old.cuts (old.start ∷ []) fits.rise) in
    let grown : Rising 0 old.ends (length (old.cuts ++ old.start ∷ [])) = rising-more 0 old.ends _ _ fits.rise (omega (arith, length_push old.cuts old.start)) in (
      ap (map (fields_cut_at text)) same,
      ap (fields_cut_at text) line ∙ rw (fields_cut_at-more text (line_cuts old) (i + 1) some, last, before_end) refl,
      record {
        each = rw same fits.each;
        line = rw line (CutsIn-more most most (line_cuts old) (i + 1) some fits.line (omega (arith, last)) (omega arith));
        rise = rw (ended.cuts, ended.ends) grown;
        first = rw (ended.ends, ended.first) fits.first;
      },
    )

-- nothing is cut yet
pub HasCut-none : (text : List ℕ) (cut : CutSoFar) → cut.cuts ≡ [] → cut.ends ≡ [] → cut.start ≡ 0 → cut.first ≡ 0 → HasCut text cut 0
unfolding pieces fields_cut_at CutsIn Rising last_end
HasCut-none text cut cuts ends start first =
    record {
      rows = rw (cuts, ends, first, none-there text cut.start 0 start) refl;
      no_quote = All-nil (λ byte. byte ≢ 34);
      fits = record { each = rw (cuts, ends) (All-nil (CutsIn (length text + 1))); line = rw (cuts, start, first) (omega arith); rise = rw (cuts, ends) (omega arith); first = rw (ends, first) refl };
      start = omega (arith, start);
    }

-- one byte more is no double quote
no-quote-more : (text : List ℕ) (i : ℕ) → i < length text → HasNoQuote (take i text) → get_or text i 0 ≢ 34 → HasNoQuote (take (i + 1) text)
no-quote-more text i there before plain =
    rw (take_more text i 0 there) (All-push (λ byte. byte ≢ 34) (take i text) (get_or text i 0) before plain)

-- a comma
pub HasCut-comma : (text : List ℕ) (old new : CutSoFar) (i : ℕ) → i < length text → get_or text i 0 ≡ 44 → EndsField old new i → HasCut text old i → HasCut text new (i + 1)
HasCut-comma text old new i there is ended has =
    let step = field-step text old new i ended has.fits has.start (omega arith) in
    let field = slice_range text old.start i in
    let rest = drop (i + 1) text in
    let next : cut_rows (line_fields text old) field (drop i text) ≡ cut_rows (line_fields text old ++ field ∷ []) [] rest =
    ap (cut_rows (line_fields text old) field) (drop_more text i 0 there) ∙ cut-comma (line_fields text old) field (get_or text i 0) rest (eq-eqb (get_or text i 0) 44 is) in
    record {
      rows = has.rows ∙ rw (next, step.0, step.1, none-there text new.start (i + 1) ended.start) refl;
      no_quote = no-quote-more text i there has.no_quote (λ quote. omega arith);
      fits = step.2;
      start = omega (arith, ended.start);
    }

-- the end of a line
pub HasCut-line : (text : List ℕ) (old new : CutSoFar) (i : ℕ) → i < length text → ends_line (get_or text i 0) ≡ true → LineEnded text old new i → HasCut text old i → HasCut text new (i + 1)
HasCut-line text old new i there is ended has =
    let field = slice_range text old.start i in
    let rest = drop (i + 1) text in
    let more = cut_rows [] [] rest in
    let next : cut_rows (line_fields text old) field (drop i text) ≡ with_line (line_fields text old) field more =
    ap (cut_rows (line_fields text old) field) (drop_more text i 0 there) ∙ cut-line (line_fields text old) field (get_or text i 0) rest is in
    record {
      rows = has.rows ∙ ap (λ rows. rows_cut text old ++ rows) next ∙ sym (ended.rows more) ∙ rw (ended.none, none-there text new.start (i + 1) ended.start) refl;
      no_quote = no-quote-more text i there has.no_quote (λ quote. grind (arith, nat_tests));
      fits = ended.fits;
      start = omega (arith, ended.start);
    }

-- a byte of a field
pub HasCut-byte : (text : List ℕ) (cut : CutSoFar) (i : ℕ) → i < length text → get_or text i 0 ≢ 34 → get_or text i 0 ≢ 44 → ends_line (get_or text i 0) ≡ false → HasCut text cut i → HasCut text cut (i + 1)
HasCut-byte text cut i there plain comma line has =
    let byte = get_or text i 0 in
    let field = slice_range text cut.start i in
    let rest = drop (i + 1) text in
    let next : cut_rows (line_fields text cut) field (drop i text) ≡ cut_rows (line_fields text cut) (field ++ byte ∷ []) rest =
    ap (cut_rows (line_fields text cut) field) (drop_more text i 0 there) ∙ cut-byte (line_fields text cut) field byte rest (ne_eqb byte 44 comma) line in
    record {
      rows = has.rows ∙ rw (next, between_more text cut.start i 0 has.start there) refl;
      no_quote = no-quote-more text i there has.no_quote plain;
      fits = has.fits;
      start = omega (arith, has.start);
    }

-- a byte past the comma is one of a field, whatever it is
past-comma : (byte : ℕ) → 44 < byte → ends_line byte ≡ false
past-comma byte past = grind (arith, nat_tests)

pub HasCut-past : (text : List ℕ) (cut : CutSoFar) (i : ℕ) → i < length text → 44 < get_or text i 0 → HasCut text cut i → HasCut text cut (i + 1)
HasCut-past text cut i there past has = HasCut-byte text cut i there (λ quote. omega arith) (λ comma. omega arith) (past-comma (get_or text i 0) past) has

-- bytes above the comma are cut by looking past them
pub HasCut-skip : (text : List ℕ) (cut : CutSoFar) (i n : ℕ) → i + n ≤ length text → ((k : ℕ) → k < n → 44 < get_or text (i + k) 0)
    → HasCut text cut i → HasCut text cut (i + n)
HasCut-skip text cut i zero there above has = subst (HasCut text cut) (let e : i ≡ i + zero = omega arith in e) has
HasCut-skip text cut i (suc n) there above has =
    subst (HasCut text cut) (let e : i + n + 1 ≡ i + suc n = omega arith in e)
    (HasCut-past text cut (i + n) (omega (arith, there)) (above n (omega arith))
    (HasCut-skip text cut i n (omega (arith, there)) (λ k l. above k (omega (arith, l))) has))

-- the end of the text ends its last line
pub HasCut-end : (text : List ℕ) (old new : CutSoFar) (i : ℕ) → length text ≤ i → LineEnded text old new i → HasCut text old i → HasCutAll text new
HasCut-end text old new i end ended has =
    let field = slice_range text old.start i in
    let next : cut_rows (line_fields text old) field (drop i text) ≡ with_line (line_fields text old) field [] =
    ap (cut_rows (line_fields text old) field) (drop_all i text end) ∙ cut-none (line_fields text old) field in
    record {
      rows = has.rows ∙ ap (λ rows. rows_cut text old ++ rows) next ∙ sym (ended.rows []) ∙ append-nil (rows_cut text new);
      no_quote = rw (take_all i text end) at has.no_quote;
      fits = ended.fits;
      all = omega (arith, fields-long text new ended.fits, ap length ended.none);
    }

-- the test of a blank line, by places and by lengths
blank-test : (fields first all field start i : ℕ) → fields + first ≡ all → field + start ≡ i → ((fields == 0) && (field == 0)) ≡ ((start == i) && (first == all))
blank-test fields first all field start i e f = grind (arith, nat_tests)

blank-is : (text : List ℕ) (cut : CutSoFar) (i : ℕ) → Fits text cut → cut.start ≤ i → i ≤ length text
    → is_blank (line_fields text cut) (slice_range text cut.start i) ≡ ((cut.start == i) && (cut.first == length cut.cuts))
blank-is text cut i fits order within =
    blank-test (length (line_fields text cut)) cut.first (length cut.cuts) (length (slice_range text cut.start i)) cut.start i (fields-long text cut fits) (field-long text cut.start i order within)

-- a line in which nothing stands
pub LineEnded-blank : (text : List ℕ) (old new : CutSoFar) (i : ℕ) → i ≤ length text → old.start ≤ i → Fits text old → ((old.start == i) && (old.first == length old.cuts)) ≡ true
    → new.cuts ≡ old.cuts → new.ends ≡ old.ends → new.first ≡ old.first → new.start ≡ i + 1 → LineEnded text old new i
unfolding fields_cut_at CutsIn
LineEnded-blank text old new i within order fits blank cuts ends first start =
    let is : is_blank (line_fields text old) (slice_range text old.start i) ≡ true = blank-is text old i fits order within ∙ blank in
    let all : old.first ≡ length old.cuts = eqb-true old.first (length old.cuts) (and_parts (old.start == i) (old.first == length old.cuts) blank).1 in
    let none : drop old.first old.cuts ≡ [] = drop_all old.first old.cuts (omega (arith, all)) in
    let line : line_cuts new ≡ (i + 1) ∷ [] = rw (first, cuts, none, start) refl in
    record {
      rows = λ more. rw (cuts, ends, is) refl;
      none = rw line refl;
      fits = record { each = rw (cuts, ends) fits.each; line = rw line (omega arith); rise = rw (cuts, ends) fits.rise; first = rw (ends, first) fits.first };
      start = start;
    }

-- a line that is a row
pub LineEnded-row : (text : List ℕ) (old mid new : CutSoFar) (i : ℕ) → i ≤ length text → old.start ≤ i → Fits text old → ((old.start == i) && (old.first == length old.cuts)) ≡ false → EndsField old mid i
    → new.cuts ≡ mid.cuts ++ mid.start ∷ [] → new.ends ≡ mid.ends ++ length new.cuts ∷ [] → new.first ≡ length new.cuts → new.start ≡ mid.start → LineEnded text old new i
unfolding fields_cut_at CutsIn
LineEnded-row text old mid new i within order fits row ended cuts ends first start =
    let most = length text + 1 in
    let is : is_blank (line_fields text old) (slice_range text old.start i) ≡ false = blank-is text old i fits order within ∙ row in
    let step = field-step text old mid i ended fits order within in
    let before = pieces 0 mid.ends mid.cuts in
    let count = length new.cuts in
    let more : pieces 0 mid.ends new.cuts ≡ before = rw cuts (pieces-more 0 mid.ends mid.cuts (mid.start ∷ []) step.2.rise) in
    let line : slice_range new.cuts mid.first count ≡ line_cuts mid =
    take_rest new.cuts mid.first ∙ rw (cuts, drop-append-le mid.first mid.cuts (mid.start ∷ []) (first-within text mid step.2)) refl in
    let all : pieces 0 new.ends new.cuts ≡ before ++ line_cuts mid ∷ [] =
    ap (λ places. pieces 0 places new.cuts) ends ∙ pieces-push 0 mid.ends new.cuts count ∙ rw (more, step.2.first, line) refl in
    let rows : rows_cut text new ≡ rows_cut text old ++ (line_fields text old ++ slice_range text old.start i ∷ []) ∷ [] =
    ap (map (fields_cut_at text)) all ∙ map_push (fields_cut_at text) before (line_cuts mid) ∙ rw (step.0, step.1) refl in
    let grown : Rising 0 mid.ends count = rising-more 0 mid.ends _ _ step.2.rise (omega (arith, ap length cuts, length_push mid.cuts mid.start)) in
    let next : line_cuts new ≡ (i + 1) ∷ [] = rw (first, drop_all count new.cuts (omega arith), start, ended.start) refl in
    record {
      rows = λ others. rw (rows, is) (append_assoc (rows_cut text old) ((line_fields text old ++ slice_range text old.start i ∷ []) ∷ []) others);
      none = rw next refl;
      fits = record {
        each = rw all (All-push (CutsIn most) before (line_cuts mid) step.2.each step.2.line);
        line = rw next (omega arith);
        rise = rw ends (rising-end 0 mid.ends count grown);
        first = rw ends (last-append 0 mid.ends count) ∙ sym first;
      };
      start = start ∙ ended.start;
    }
