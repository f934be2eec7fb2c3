use Rattle.std.proofs.Common.{◌≡◌, take}
use Rattle.cycle_time.specs.Rings.{laps}
use Rattle.cycle_time.proofs.refusal.laps.Given as goal

abbrev pub invariant-loop-demand : goal.invariant-loop-demand
invariant-loop-demand l = l.count ≡ laps (take l.demand-index l.demands)
