-- The text of the made line says its base and its scripts.
use Rattle.std.proofs.Common.{◌≡◌, ℕ, ◌+◌, ◌*◌, ◌<◌, ◌≤◌, Bool, true, false, ◌==◌, None, List, [], ◌∷◌, ◌++◌, length, Result, Ok, Err, refl, sym, ap, ◌∙◌, subst, inl, inr, append-nil, length-append, if◌then◌else◌, arith}
use Rattle.std.specs.Prelude.{codes, drop}
use Rattle.std.proofs.lemmas.Bool.{cases_Bool}
use Rattle.csv.specs.Machine.{next_record}
use Rattle.csv.specs.Reading.{default_config, records, strip_bom, Reached}
use Rattle.csv.specs.Writing.{default_writer, fields_text, field_text, needs_quotes, escaped, is_blank, read_back}
use Rattle.csv.specs.declared.parser.State.TheVariants as st
use Rattle.csv.proofs.RoundTrip.{read-write}
use Rattle.rail_model.specs.declared.items.Item.TheVariants as item
use Rattle.rail_model.specs.declared.tables.Tables.{Tables}
use Rattle.rail_model.specs.Rules.{no_tables, after_edits, AreAccepted}
use Rattle.row_text.specs.declared.line.Line.{Line}
use Rattle.row_text.specs.SheetRows.{Row, text_of_row, text_of_rows}
use Rattle.row_text.specs.Rows as csv
use Rattle.row_text.specs.Lines.{◌>>=◌, item_fields, row_in, has_version_row}
use Rattle.row_text.proofs.Records.{Reached-length, records_from-Reached, records_from-end}
use Rattle.row_text.proofs.Says.{Each}
use Rattle.made_line.specs.Base.{block_of, first_blocks, first_signals, first_runs, first_sections, base_edits, first_tasks, first_scripts, scripts_of_made, base_tables}
use Rattle.made_line.specs.Text.{made_lines, rows_of, made_text}
use Rattle.made_line.proofs.Written.{has_word}
use Rattle.made_line.proofs.Accepted.{base_made}
use Rattle.plan_book.specs.declared.book.TheConstants.{PLANNERS}
use Rattle.capacity_cmd.specs.declared.limit.TheConstants.{INPUT_BYTES}
use Rattle.capacity_cmd.specs.declared.status.Cause.{Cause}
use Rattle.capacity_cmd.specs.Input.{Spelling, nothing, with_line, spelling_from, content_of_rows}
use Rattle.capacity_cmd.specs.Laws.{SaysMadeLine}
use Rattle.capacity_cmd.proofs.Outcomes.{content_of_short}
use Rattle.capacity_cmd.proofs.MadeRows.{IsPlain, made_plain}

-- ---- what lines spell

abbrev spelled_by : ℕ → Spelling → List Line → Result Spelling Cause
spelled_by planners s [] = Ok s
spelled_by planners s (l ∷ lines) = with_line planners s l >>= λ next. spelled_by planners next lines

abbrev made_spelling : ℕ → Spelling
made_spelling n = record { base = base_edits n; scripts = scripts_of_made n }

made_spells : (n : ℕ) → spelled_by PLANNERS nothing (made_lines n) ≡ Ok (made_spelling n)
unfolding made_lines base_edits first_blocks first_signals first_runs first_sections first_scripts first_tasks
made_spells n = refl

first_spelled : (found : Result Spelling Cause) (next : Spelling → Result Spelling Cause) (last : Spelling)
    → (found >>= next) ≡ Ok last → (s : Spelling) × (found ≡ Ok s) × (next s ≡ Ok last)
first_spelled (Ok s) next last h = (s, refl, h)
first_spelled (Err why) next last h = absurd (cc h)

-- and so do the rows that are read back to them
rows_spell : (planners number : ℕ) (s last : Spelling) (lines : List Line) → Each IsPlain lines
    → spelled_by planners s lines ≡ Ok last → spelling_from planners 1 number s (rows_of lines) ≡ Ok last
rows_spell planners number s last [] each h = let same : s ≡ last = cc h in ap Ok same
rows_spell planners number s last (l ∷ lines) each h =
    let first = first_spelled (with_line planners s l) (λ next. spelled_by planners next lines) last h in
    rw (each.0.reads, first.1) (rows_spell planners (number + 1) first.0 last lines each.1 first.2)

-- ---- rows that are read from their text

row_back : (row : Row) → 0 < length row → row ≡ read_back row
row_back [] some = absurd (omega arith)
row_back (f ∷ row) some = refl

rows_reached : (lines : List Line) → Reached default_config st.StartRecord (text_of_rows (rows_of lines)) (rows_of lines) st.StartRecord []
unfolding Reached text_of_row
rows_reached [] = (refl, refl)
rows_reached (l ∷ lines) =
    let rest = text_of_rows (rows_of lines) in
    let row = row_in 1 l in
    ((read_back row, st.StartRecord, rest), read-write row rest, row_back row (has_word l), rows_reached lines)

no_more : next_record default_config st.StartRecord [] [] [] ≡ None
unfolding next_record
no_more = refl

records_of_lines : (lines : List Line) → records default_config (text_of_rows (rows_of lines)) ≡ rows_of lines
records_of_lines lines =
    let text = text_of_rows (rows_of lines) in
    let reached = rows_reached lines in
    let few = Reached-length default_config st.StartRecord text (rows_of lines) st.StartRecord [] reached in
    let all = records_from-Reached default_config (length text + 1) st.StartRecord text (rows_of lines) st.StartRecord [] reached few in
    all.1 ∙ ap (λ more. rows_of lines ++ more) (records_from-end default_config all.0 st.StartRecord [] no_more) ∙ append-nil (rows_of lines)

-- the first row is that of a block: no byte order mark, and no version
first_row : (n : ℕ) → (fields : Row) × (rest : List Row) × (rows_of (made_lines n) ≡ (codes "block" ∷ fields) ∷ rest)
unfolding made_lines base_edits first_blocks
first_row n = (item_fields 1 (item.Block (block_of n 0)), drop 1 (rows_of (made_lines n)), refl)

no_mark : (fields : Row) (rest : List Row) → strip_bom (text_of_rows ((codes "block" ∷ fields) ∷ rest)) ≡ text_of_rows ((codes "block" ∷ fields) ∷ rest)
unfolding strip_bom text_of_row
no_mark fields rest = refl

made_unmarked : (n : ℕ) → strip_bom (made_text n) ≡ made_text n
made_unmarked n =
    let first = first_row n in
    subst (λ rows. strip_bom (text_of_rows rows) ≡ text_of_rows rows) (sym first.2) (no_mark first.0 first.1)

no_version : (n : ℕ) → has_version_row (rows_of (made_lines n)) ≡ false
unfolding made_lines base_edits first_blocks
no_version n = refl

pub made_rows_read : (n : ℕ) → csv.rows_of (made_text n) ≡ rows_of (made_lines n)
made_rows_read n = ap (records default_config) (made_unmarked n) ∙ records_of_lines (made_lines n)

-- ---- the text is short

escaped_fits : (field : List ℕ) → length (escaped default_writer field) ≤ 2 * length field
unfolding escaped
escaped_fits [] = omega arith
escaped_fits (b ∷ field) = elim (cases_Bool (b == 34)) [
  | inl mark ↦ rw mark (omega (arith, escaped_fits field))
  | inr other ↦ rw other (omega (arith, escaped_fits field))
]

field_fits : (field : List ℕ) → length (field_text default_writer field) ≤ 2 * length field + 2
field_fits field = elim (cases_Bool (needs_quotes default_writer field)) [
  | inl needs ↦ rw needs (omega (arith, escaped_fits field, length-append (escaped default_writer field) (34 ∷ [])))
  | inr plain ↦ rw plain (omega arith)
]

fields_fit : (fields : Row) → Each (λ f. length f ≤ 64) fields → length (fields_text default_writer fields) ≤ 131 * length fields
unfolding fields_text
fields_fit [] each = omega arith
fields_fit (f ∷ fields) each =
    omega (arith, length-append (field_text default_writer f) (fields_text default_writer fields), field_fits f, each.0, fields_fit fields each.1)

abbrev row_end : Bool → List ℕ
row_end blank = (if blank then 34 ∷ 34 ∷ [] else []) ++ 10 ∷ []

end_fits : (blank : Bool) → length (row_end blank) ≤ 3
end_fits true = omega arith
end_fits false = omega arith

row_fits : (row : Row) → Each (λ f. length f ≤ 64) row → length (text_of_row row) ≤ 131 * length row + 3
unfolding text_of_row
row_fits [] each = end_fits (is_blank default_writer [])
row_fits (f ∷ fields) each =
    let more = fields_text default_writer fields in
    let blank = is_blank default_writer (f ∷ fields) in
    omega (arith, length-append (field_text default_writer f ++ more) (row_end blank), length-append (field_text default_writer f) more, field_fits f, each.0, fields_fit fields each.1, end_fits blank)

lines_fit : (lines : List Line) → Each IsPlain lines → length (text_of_rows (rows_of lines)) ≤ 17557 * length lines
lines_fit [] each = omega arith
lines_fit (l ∷ lines) each =
    omega (arith, length-append (text_of_row (row_in 1 l)) (text_of_rows (rows_of lines)), row_fits (row_in 1 l) each.0.short, each.0.few, lines_fit lines each.1)

line_count : (n : ℕ) → length (made_lines n) ≡ 569
unfolding made_lines base_edits first_blocks first_signals first_runs first_sections first_scripts first_tasks
line_count n = refl

made_fits : (n : ℕ) → length (made_text n) ≤ INPUT_BYTES
made_fits n = omega (arith, lines_fit (made_lines n) (made_plain n), line_count n)

-- ---- what it says

content_is : (planners : ℕ) (rows : List Row) (s : Spelling) (tables : Tables) → has_version_row rows ≡ false
    → spelling_from planners 1 1 nothing rows ≡ Ok s → AreAccepted no_tables s.base → after_edits no_tables s.base ≡ tables
    → content_of_rows planners rows ≡ Ok (record { spelling = s; tables = tables })
content_is planners rows s tables version spelling accepted after = rw (version, spelling, accepted, after) refl

pub made_says : (n : ℕ) → SaysMadeLine n
made_says n =
    let lines = made_lines n in
    content_of_short PLANNERS (made_text n) (made_fits n) ∙ ap (content_of_rows PLANNERS) (made_rows_read n)
    ∙ content_is PLANNERS (rows_of lines) (made_spelling n) (base_tables n) (no_version n)
    (rows_spell PLANNERS 1 nothing (made_spelling n) lines (made_plain n) (made_spells n)) (base_made n).accepted (base_made n).after
