use Rattle.std.proofs.Common.{◌-◌}
use Rattle.cycle_time.proofs.Limits.{IsSearched}
use Rattle.cycle_time.proofs.least_period.least_period.Given as goal

abbrev pub invariant-loop-ring : goal.invariant-loop-ring
invariant-loop-ring l = IsSearched l.cut l.period l.ring

abbrev pub decreases-loop-ring : goal.decreases-loop-ring
decreases-loop-ring l = 200000000001 - l.period
