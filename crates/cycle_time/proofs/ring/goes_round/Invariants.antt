use Rattle.cycle_time.proofs.Led.{IsLed}
use Rattle.cycle_time.proofs.ring.goes_round.Given as goal

abbrev pub invariant-loop-k : goal.invariant-loop-k
invariant-loop-k l = IsLed l.cut l.first l.ring l.first l.k l.train
