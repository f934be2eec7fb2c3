use Rattle.std.proofs.Common.{◌≡◌, take}
use Rattle.cycle_time.specs.Cycle.{patterns}
use Rattle.cycle_time.proofs.ring.patterns.Given as goal

abbrev pub invariant-loop-step : goal.invariant-loop-step
invariant-loop-step l = l.count ≡ patterns (take l.step-index l.ring)
