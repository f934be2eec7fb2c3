use Rattle.std.proofs.Common.{◌≡◌, ◌++◌, [], map, take}
use Rattle.capacity_report.specs.Blockings.{named_row}
use Rattle.capacity_report.proofs.stairs.blocking_rows.Given as goal

abbrev pub invariant-loop-blocking : goal.invariant-loop-blocking
invariant-loop-blocking l = record {
  rows : l.sheet.rows ≡ l.fn.sheet.rows ++ map (named_row l.names l.head) (take l.blocking-index l.all);
  closed : l.sheet.row ≡ [];
}
