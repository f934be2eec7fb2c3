use Rattle.std.proofs.Common.{take}
use Rattle.std.specs.List.{flat_map}
use Rattle.plan_model.specs.Members.{members}
use Rattle.row_text.specs.Adds.{AddsAll}
use Rattle.capacity_report.specs.Pairs.{pair_rows}
use Rattle.capacity_report.proofs.headways.rows_from.Given as goal

abbrev pub invariant-loop-j : goal.invariant-loop-j
invariant-loop-j l = AddsAll l.fn.sheet l.sheet (flat_map (pair_rows l.cut l.i) (take l.j (members l.cut)))
