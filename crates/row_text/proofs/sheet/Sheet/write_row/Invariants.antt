use Rattle.std.proofs.Common.{◌≡◌, take}
use Rattle.row_text.proofs.sheet.Sheet.write_row.Given as goal

abbrev pub invariant-loop-i : goal.invariant-loop-i
invariant-loop-i l = record {
  rows : l.self.rows ≡ l.initial.self.rows;
  row : l.self.row ≡ take l.i l.fields;
}
