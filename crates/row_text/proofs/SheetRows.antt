-- The bytes of a sheet and the rows that they are the text of.
use Rattle.std.proofs.Common.{◌≡◌, ℕ, zero, suc, ◌+◌, ◌<◌, ◌≤◌, Bool, true, false, ◌==◌, ◌||◌, List, [], ◌∷◌, ◌++◌, length, None, IsTrue, if◌then◌else◌, subst, refl, sym, ap, ◌∙◌, append_assoc, arith, rules}
use Rattle.std.specs.List.{list_all}
use Rattle.std.proofs.Math.Bool.{or-false, or-true}
use Rattle.std.proofs.lemmas.Bool.{and_parts, false≢true, ne_eqb}
use Rattle.std.proofs.lemmas.List.{append-nil, length-append}
use Rattle.csv.specs.Machine.{next_record}
use Rattle.csv.specs.Reading.{default_config, records, records_from}
use Rattle.csv.specs.Writing.{default_writer, row_text, row_body, fields_text, field_text, is_blank, read_back}
use Rattle.csv.specs.declared.parser.State.TheVariants as st
use Rattle.csv.proofs.RoundTrip.{read-write}
use Rattle.row_text.specs.declared.sheet.Sheet.TheInside.{Inside}
use Rattle.row_text.specs.SheetRows.{Row, SheetRows, text_of_row, text_of_rows, has_fields}
use Rattle.row_text.specs.Put.{separator, more_text}
use Rattle.row_text.specs.Sheet.{ended_text, open_text, ended_row, first_row, sheet_rows}
use Rattle.row_text.specs.SheetText.{HoldsRows, IsSheet}

pub IsTrue-true : {b : Bool} → IsTrue b → b ≡ true
IsTrue-true h = search rules

pub IsTrue-from : {b : Bool} → b ≡ true → IsTrue b
IsTrue-from h = search rules

no_record : next_record default_config st.StartRecord [] [] [] ≡ None
unfolding next_record
no_record = refl

read_back-same : (row : Row) → has_fields row ≡ true → read_back row ≡ row
read_back-same [] some = absurd (false≢true some)
read_back-same (first ∷ row) some = refl

-- rows that have fields are read from their text, in as many turns as it has bytes
records_from-text : (n : ℕ) (rows : List Row) → list_all has_fields rows ≡ true → length rows ≤ n → records_from default_config n st.StartRecord (text_of_rows rows) ≡ rows
unfolding records_from text_of_row
records_from-text zero [] each few = refl
records_from-text (suc n) [] each few = rw no_record refl
records_from-text zero (row ∷ rows) each few = absurd (omega arith)
records_from-text (suc n) (row ∷ rows) each few =
    let both = and_parts (has_fields row) (list_all has_fields rows) each in
    rw (read-write row (text_of_rows rows), read_back-same row both.0) (ap (λ rest. row ∷ rest) (records_from-text n rows both.1 (omega arith)))

text_of_row-some : (row : Row) → 0 < length (text_of_row row)
unfolding text_of_row
text_of_row-some row =
    let quotes : List ℕ = if is_blank default_writer row then 34 ∷ 34 ∷ [] else [] in
    omega (arith, length-append (row_body default_writer row) (quotes ++ 10 ∷ []), length-append quotes (10 ∷ []))

length-rows : (rows : List Row) → length rows ≤ length (text_of_rows rows)
length-rows [] = omega arith
length-rows (row ∷ rows) = omega (arith, length-append (text_of_row row) (text_of_rows rows), text_of_row-some row, length-rows rows)

-- rows that have fields are those that are read from their text
records-text : (rows : List Row) → list_all has_fields rows ≡ true → records default_config (text_of_rows rows) ≡ rows
records-text rows each = records_from-text (length (text_of_rows rows) + 1) rows each (omega (arith, length-rows rows))

-- a row that has fields ends with what its bytes ask for
pub ended_row-text : (row : Row) → has_fields row ≡ true → ended_row (row_body default_writer row) ≡ text_of_row row
unfolding text_of_row is_blank fields_text
ended_row-text [] some = absurd (false≢true some)
ended_row-text (first ∷ []) some = rw (append-nil (field_text default_writer first)) refl
ended_row-text (first ∷ next ∷ row) some =
    let rest : List ℕ = 44 ∷ (field_text default_writer next ++ fields_text default_writer row) in
    let shown : (length (field_text default_writer first ++ rest) == 0) ≡ false =
    ne_eqb (length (field_text default_writer first ++ rest)) 0 (λ none. absurd (omega (arith, none, length-append (field_text default_writer first) rest))) in
    rw shown refl

first_row-text : (row : Row) → has_fields row ≡ true → first_row (text_of_row row) ≡ row
unfolding text_of_row
first_row-text row some =
    let read = ap (next_record default_config st.StartRecord [] []) (sym (append-nil (row_text default_writer row))) ∙ read-write row [] in
    rw (read, read_back-same row some) refl

-- more fields
more_text-fields : (fields : Row) → more_text true fields ≡ fields_text default_writer fields
unfolding fields_text
more_text-fields [] = refl
more_text-fields (first ∷ fields) = ap (λ (rest : List ℕ). 44 ∷ (field_text default_writer first ++ rest)) (more_text-fields fields)

fields_text-append : (row more : Row) → fields_text default_writer (row ++ more) ≡ fields_text default_writer row ++ fields_text default_writer more
unfolding fields_text
fields_text-append [] more = refl
fields_text-append (first ∷ row) more =
    rw (fields_text-append row more) (ap (λ (rest : List ℕ). 44 ∷ rest) (sym (append_assoc (field_text default_writer first) (fields_text default_writer row) (fields_text default_writer more))))

pub row_body-append : (row more : Row) → row_body default_writer (row ++ more) ≡ row_body default_writer row ++ more_text (has_fields row) more
row_body-append [] [] = refl
row_body-append [] (first ∷ more) = ap (λ (rest : List ℕ). field_text default_writer first ++ rest) (sym (more_text-fields more))
row_body-append (first ∷ row) more =
    rw (fields_text-append row more, more_text-fields more) (sym (append_assoc (field_text default_writer first) (fields_text default_writer row) (fields_text default_writer more)))

-- fields whose text was made before
pub more_text-body : (has_field : Bool) (more : Row) → has_fields more ≡ true → more_text has_field more ≡ separator has_field ++ row_body default_writer more
more_text-body has_field [] some = absurd (false≢true some)
more_text-body has_field (first ∷ more) some = rw (more_text-fields more) refl

pub more_text-push : (has_field : Bool) (more : Row) (text : List ℕ) → more_text has_field (more ++ text ∷ []) ≡ more_text has_field more ++ (separator (has_field || has_fields more) ++ field_text default_writer text)
more_text-push has_field [] text = rw (or-false has_field, append-nil (field_text default_writer text)) refl
more_text-push has_field (first ∷ more) text = rw (or-true has_field, more_text-push true more text) (simp append_assoc)

pub has_fields-some : (row : Row) → 0 < length row → has_fields row ≡ true
has_fields-some [] some = absurd (omega arith)
has_fields-some (first ∷ row) some = refl

pub has_fields-append : (row more : Row) → has_fields (row ++ more) ≡ (has_fields row || has_fields more)
has_fields-append [] more = refl
has_fields-append (first ∷ row) more = refl

-- what the bytes of a sheet are the text of is what the sheet is seen as
open_row-is : (row : Row) (has_field : Bool) (body : List ℕ) → has_field ≡ has_fields row → body ≡ row_body default_writer row → (if has_field then first_row (ended_row body) else []) ≡ row
open_row-is [] has_field body begun is = rw begun refl
open_row-is (first ∷ row) has_field body begun is = rw (begun, is, ended_row-text (first ∷ row) refl) (first_row-text (first ∷ row) refl)

pub sheet_rows-is : (sheet : Inside) (rows : List Row) (row : Row) → HoldsRows sheet rows row → sheet_rows sheet ≡ record { rows = rows; row = row }
sheet_rows-is sheet rows row h =
    let ended : records default_config (ended_text sheet) ≡ rows = ap (records default_config) h.ended ∙ records-text rows (IsTrue-true h.each) in
    let open_row = open_row-is row sheet.has_field (open_text sheet) h.begun h.body in
    rw (ended, open_row) refl

pub IsSheet-from : (sheet : Inside) (rows : List Row) (row : Row) → HoldsRows sheet rows row → IsSheet sheet
IsSheet-from sheet rows row h =
    let P : SheetRows → Type 0 = λ seen. HoldsRows sheet seen.rows seen.row in
    subst P (sym (sheet_rows-is sheet rows row h)) h
