use Rattle.std.proofs.Common.{◌≡◌, map, take}
use Rattle.row_text.specs.FieldText.{text_of}
use Rattle.row_text.proofs.sheet.Sheet.write.Given as goal

abbrev pub invariant-loop-field : goal.invariant-loop-field
invariant-loop-field l = record {
  rows : l.self.rows ≡ l.initial.self.rows;
  row : l.self.row ≡ map text_of (take l.field-index l.fields);
}
