use Rattle.std.proofs.Common.{map, take}
use Rattle.row_text.specs.Adds.{AddsAll}
use Rattle.capacity_report.specs.Rows.{conflict_row}
use Rattle.capacity_report.proofs.check.listed_rows.Given as goal

abbrev pub invariant-loop-conflict : goal.invariant-loop-conflict
invariant-loop-conflict l = AddsAll l.fn.sheet l.sheet (map (conflict_row l.tables) (take l.conflict-index l.listed))
