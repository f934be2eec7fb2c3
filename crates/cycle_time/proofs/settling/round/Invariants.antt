use Rattle.std.proofs.Common.{take}
use Rattle.cycle_time.specs.Raising.{AreRaised, AreEarly}
use Rattle.cycle_time.specs.Settling.{IsSoFar}
use Rattle.cycle_time.proofs.settling.round.Given as goal

abbrev pub invariant-loop-demand : goal.invariant-loop-demand
invariant-loop-demand l =
    AreRaised l.cut l.period l.entries l.causes × AreEarly l.entries
    × IsSoFar l.period (take l.demand-index l.demands) l.fn.entries l.entries l.top
