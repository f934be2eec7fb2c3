use Rattle.headway_table.specs.Numbers.{raised_at, AreRaised}
use Rattle.headway_table.proofs.row.raise.Given as goal

abbrev pub invariant-loop-j : goal.invariant-loop-j
invariant-loop-j l = AreRaised (raised_at l.place) l.j l.initial.greatest l.greatest
