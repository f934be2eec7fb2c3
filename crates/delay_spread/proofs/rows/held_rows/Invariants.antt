use Rattle.std.proofs.Common.{map, take}
use Rattle.plan_model.specs.Members.{members}
use Rattle.row_text.specs.Adds.{AddsAll}
use Rattle.delay_spread.specs.Spreading.{held_row}
use Rattle.delay_spread.proofs.rows.held_rows.Given as goal

abbrev pub invariant-loop-i : goal.invariant-loop-i
invariant-loop-i l = AddsAll l.fn.sheet l.sheet (map (held_row l.cut l.held) (take l.i (members l.cut)))
