use Rattle.std.proofs.Common.{take}
use Rattle.std.specs.List.{flat_map}
use Rattle.row_text.specs.Adds.{AddsAll}
use Rattle.line_cutter.specs.Rows.{stretch_rows}
use Rattle.line_cutter.proofs.rows.stretches_rows.Given as goal

abbrev pub invariant-loop-stretch : goal.invariant-loop-stretch
invariant-loop-stretch l =
    AddsAll l.fn.sheet l.sheet (flat_map (stretch_rows l.section) (take l.stretch-index l.stretches))
