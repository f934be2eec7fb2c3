use Rattle.capacity_cmd.specs.Counted.{AreCounted}
use Rattle.capacity_cmd.proofs.made.counts_of.Given as goal

-- those of the sections so far
abbrev pub invariant-loop-number : goal.invariant-loop-number
invariant-loop-number l = AreCounted l.tables l.number l.counts
