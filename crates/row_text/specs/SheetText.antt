-- The bytes of a sheet are the text of its rows.
use Rattle.std.specs.Prelude.{◌≡◌, ◌≤◌, List, length, IsTrue}
use Rattle.std.specs.List.{list_all}
use Rattle.csv.specs.Writing.{default_writer, row_body}
use Rattle.row_text.specs.declared.sheet.Sheet.TheInside.{Inside}
use Rattle.row_text.specs.SheetRows.{Row, text_of_rows, has_fields}
use Rattle.row_text.specs.Sheet.{ended_text, open_text, sheet_rows}

pub record HoldsRows (sheet : Inside) (rows : List Row) (row : Row) : Type 0 where
  pub order : sheet.ended ≤ sheet.used
  pub room : sheet.used ≤ length sheet.text.items
  pub ended : ended_text sheet ≡ text_of_rows rows
  pub each : IsTrue (list_all has_fields rows)
  pub body : open_text sheet ≡ row_body default_writer row
  pub begun : sheet.has_field ≡ has_fields row

abbrev pub IsSheet : Inside → Type 0
IsSheet sheet = HoldsRows sheet (sheet_rows sheet).rows (sheet_rows sheet).row
