use Rattle.std.proofs.Common.{take}
use Rattle.line_cutter.specs.Opposed.{AreStartRanges}
use Rattle.line_cutter.proofs.opposed.ranges_of.Given as goal

abbrev pub invariant-loop-row : goal.invariant-loop-row
invariant-loop-row l = AreStartRanges (take l.row-index l.rows) l.ranges.items
