-- What a call that adds a row, or fields of one, leaves of a sheet.
use Rattle.std.specs.Prelude.{◌≡◌, Result, Ok, Err}
use Rattle.row_text.specs.SheetRows.{Row, SheetRows, with_fields, with_row}

-- a row is added and none is open; where memory runs out, no row is added
abbrev pub AddsRow : {T E : Type 0} → Result T E → SheetRows → SheetRows → Row → Type 0
AddsRow (Ok done) before after row = after ≡ with_row before row
AddsRow (Err want) before after row = after.rows ≡ before.rows

-- fields are added to the row that is open; where memory runs out, that row is unknown, and the rows before it stay
abbrev pub AddsFields : {T E : Type 0} → Result T E → SheetRows → SheetRows → Row → Type 0
AddsFields (Ok done) before after fields = after ≡ with_fields before fields
AddsFields (Err want) before after fields = after.rows ≡ before.rows
