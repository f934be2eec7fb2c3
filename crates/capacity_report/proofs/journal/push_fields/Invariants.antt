use Rattle.std.proofs.Common.{◌≡◌, ◌++◌, take}
use Rattle.capacity_report.proofs.journal.push_fields.Given as goal

abbrev pub invariant-loop-i : goal.invariant-loop-i
invariant-loop-i l = record {
  rows : l.sheet.rows ≡ l.fn.sheet.rows;
  row : l.sheet.row ≡ l.fn.sheet.row ++ take l.i l.fields;
}
