-- A sheet: rows that are written, as CSV writes them.
use Rattle.std.specs.Prelude.{ℕ, ◌==◌, if◌then◌else◌, List, [], ◌∷◌, ◌++◌, length, take, slice_range, option_map, unwrap_or}
use Rattle.csv.specs.Machine.{next_record}
use Rattle.csv.specs.Reading.{default_config, records}
use Rattle.csv.specs.declared.parser.State.TheVariants as st
use Rattle.row_text.specs.declared.sheet.Sheet.TheInside.{Inside}
use Rattle.row_text.specs.SheetRows.{Row, SheetRows}

-- the bytes of the rows that were ended, and those of the row that is being written
abbrev pub ended_text : Inside → List ℕ
ended_text sheet = take sheet.ended sheet.text.items

abbrev pub open_text : Inside → List ℕ
open_text sheet = slice_range sheet.text.items sheet.ended sheet.used

-- what ends a row of these bytes: CSV writes one empty field as two quotes
abbrev pub ended_row : List ℕ → List ℕ
ended_row body = body ++ ((if length body == 0 then 34 ∷ 34 ∷ [] else []) ++ 10 ∷ [])

-- the first row of a text
abbrev pub first_row : List ℕ → Row
first_row text = unwrap_or (option_map (λ p. p.0) (next_record default_config st.StartRecord [] [] text)) []

-- the rows that the bytes are the text of, and the fields of the row that is being written
abbrev pub sheet_rows : Inside → SheetRows
sheet_rows sheet = record {
  rows = records default_config (ended_text sheet);
  row = (if sheet.has_field then first_row (ended_row (open_text sheet)) else []);
}
