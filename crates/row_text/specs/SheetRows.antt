-- Rows and their fields, and what a sheet is seen as.
use Rattle.std.specs.Prelude.{ℕ, List, [], slice_index_or, ◌≡◌, Bool, true, false, ◌∷◌, ◌++◌, take, IsTrue}
use Rattle.std.specs.List.{flat_map, list_all}
use Rattle.csv.specs.Writing.{default_writer, row_text}

-- a row is its fields, each a list of bytes
abbrev pub Row : Type 0
Row = List (List ℕ)

-- the field at a place, from 0 for the row's word
abbrev pub field : Row → ℕ → List ℕ
field row i = slice_index_or row i []

-- the rows that were ended, and the fields so far of the row that is being written
pub record SheetRows : Type 0 where
  pub rows : List Row
  pub row : Row

-- a sheet with one field more, with several, and with a row ended
abbrev pub with_field : SheetRows → List ℕ → SheetRows
with_field sheet text = record sheet { row = sheet.row ++ text ∷ [] }

abbrev pub with_fields : SheetRows → Row → SheetRows
with_fields sheet fields = record sheet { row = sheet.row ++ fields }

abbrev pub with_row : SheetRows → Row → SheetRows
with_row sheet row = record { rows = sheet.rows ++ row ∷ []; row = [] }

-- a beginning of a row: its first fields, from none to all
abbrev pub IsBeginningOf : Row → Row → Type 0
IsBeginningOf row begun = (count : ℕ) × (begun ≡ take count row)

-- the text of a row as CSV writes it: commas, quotes only where needed, and a line feed
unfoldable pub text_of_row : Row → List ℕ
text_of_row row = row_text default_writer row

-- the text of rows, one after the other
abbrev pub text_of_rows : List Row → List ℕ
text_of_rows rows = flat_map text_of_row rows

abbrev pub has_fields : Row → Bool
has_fields [] = false
has_fields (first ∷ fields) = true

-- the text of these rows, of which each has a field
pub record IsTextOf (text : List ℕ) (rows : List Row) : Type 0 where
  pub written : text ≡ text_of_rows rows
  pub each : IsTrue (list_all has_fields rows)
