use Rattle.line_cutter.specs.Ways.{FallUpTo}
use Rattle.line_cutter.proofs.line.blocks_fall.Given as goal

abbrev pub invariant-loop-k : goal.invariant-loop-k
invariant-loop-k l = FallUpTo l.uses l.k
