use Rattle.std.proofs.Common.{◌-◌, length}
use Rattle.cycle_time.proofs.Behind.{IsTrail}
use Rattle.cycle_time.proofs.trail.ring_behind.Given as goal

abbrev pub invariant-loop-train : goal.invariant-loop-train
invariant-loop-train l = IsTrail l.causes l.top l.trail.items l.train

abbrev pub decreases-loop-train : goal.decreases-loop-train
decreases-loop-train l = length l.causes - length l.trail.items
