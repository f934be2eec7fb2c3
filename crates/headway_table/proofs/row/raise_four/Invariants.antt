use Rattle.headway_table.specs.Numbers.{raised_by_four, AreRaised}
use Rattle.headway_table.proofs.row.raise_four.Given as goal

abbrev pub invariant-loop-j : goal.invariant-loop-j
invariant-loop-j l = AreRaised (raised_by_four l.first l.second l.third l.fourth) l.j l.initial.greatest l.greatest
