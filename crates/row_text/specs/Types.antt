-- The types of the code that definitions speak of.
pub use Rattle.row_text.specs.declared.line.Line.{Line}
pub use Rattle.row_text.specs.declared.line_row.Cell.{Cell}
pub use Rattle.row_text.specs.declared.places.Places.{Places}
pub use Rattle.row_text.specs.declared.plain_rows.CutFields.{CutFields}
pub use Rattle.row_text.specs.declared.row_list.TakenRows.{TakenRows}
pub use Rattle.row_text.specs.declared.unread.Unread.{Unread}
pub use Rattle.row_text.specs.declared.word.Word.{Word}
pub use Rattle.row_text.specs.declared.write_field.Field.{Field}
