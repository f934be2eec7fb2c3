use Rattle.std.proofs.Common.{map, take}
use Rattle.row_text.specs.Adds.{AddsAll}
use Rattle.cycle_time.specs.Cycle.{step_row}
use Rattle.cycle_time.proofs.rows.step_rows.Given as goal

abbrev pub invariant-loop-step : goal.invariant-loop-step
invariant-loop-step l = AddsAll l.fn.sheet l.sheet (map (step_row l.cut) (take l.step-index l.steps))
