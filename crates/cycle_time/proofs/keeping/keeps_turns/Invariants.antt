use Rattle.cycle_time.specs.Laying.{KeepTurns}
use Rattle.cycle_time.proofs.keeping.keeps_turns.Given as goal

abbrev pub invariant-loop-k : goal.invariant-loop-k
invariant-loop-k l = KeepTurns l.cut l.place l.visits l.k l.period l.entries
