use Rattle.std.proofs.Common.{take}
use Rattle.line_cutter.specs.Ways.{AreOneWay}
use Rattle.line_cutter.proofs.line.one_ways.Given as goal

abbrev pub invariant-loop-row : goal.invariant-loop-row
invariant-loop-row l = AreOneWay (take l.row-index l.rows) l.ways.items
