use Rattle.line_cutter.specs.Ways.{RiseUpTo}
use Rattle.line_cutter.proofs.line.blocks_rise.Given as goal

abbrev pub invariant-loop-k : goal.invariant-loop-k
invariant-loop-k l = RiseUpTo l.uses l.k
