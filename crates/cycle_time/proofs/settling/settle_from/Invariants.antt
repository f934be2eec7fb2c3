use Rattle.cycle_time.specs.Raising.{AreRaised, AreEarly, room}
use Rattle.cycle_time.proofs.settling.settle_from.Given as goal

abbrev pub invariant-loop-top : goal.invariant-loop-top
invariant-loop-top l = AreRaised l.cut l.period l.entries l.causes × AreEarly l.entries

abbrev pub decreases-loop-top : goal.decreases-loop-top
decreases-loop-top l = room l.entries
