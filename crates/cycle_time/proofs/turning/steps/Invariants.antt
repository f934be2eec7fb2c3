use Rattle.std.proofs.Common.{◌≡◌, take, map}
use Rattle.cycle_time.specs.Rings.{step_of}
use Rattle.cycle_time.proofs.turning.steps.Given as goal

abbrev pub invariant-loop-demand : goal.invariant-loop-demand
invariant-loop-demand l = l.steps ≡ map step_of (take l.demand-index l.demands)
