use Rattle.std.proofs.Common.{map, take}
use Rattle.plan_model.specs.Members.{members}
use Rattle.row_text.specs.Adds.{AddsAll}
use Rattle.cycle_time.specs.Cycle.{slot_row}
use Rattle.cycle_time.proofs.rows.slot_rows.Given as goal

abbrev pub invariant-loop-i : goal.invariant-loop-i
invariant-loop-i l = AddsAll l.fn.sheet l.sheet (map (slot_row l.cut l.entries) (take l.i (members l.cut)))
