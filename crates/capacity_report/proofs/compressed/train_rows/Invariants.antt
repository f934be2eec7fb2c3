use Rattle.std.proofs.Common.{map, take}
use Rattle.row_text.specs.Adds.{AddsAll}
use Rattle.capacity_report.specs.Answers.{train_row}
use Rattle.capacity_report.proofs.compressed.train_rows.Given as goal

abbrev pub invariant-loop-i : goal.invariant-loop-i
invariant-loop-i l = AddsAll l.fn.sheet l.sheet (map (train_row l.plan) (take l.i l.plan.placed))
