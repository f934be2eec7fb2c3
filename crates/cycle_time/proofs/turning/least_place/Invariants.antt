use Rattle.std.proofs.Common.{◌<◌, ◌≤◌, take, length, get_or}
use Rattle.std.specs.Prelude.{All}
use Rattle.cycle_time.specs.declared.demand.Demand.{Demand}
use Rattle.cycle_time.specs.Rings.{no_demand}
use Rattle.cycle_time.proofs.turning.least_place.Given as goal

abbrev pub invariant-loop-k : goal.invariant-loop-k
invariant-loop-k l =
    (l.least < length l.demands)
    × All (λ (e : Demand). (get_or l.demands l.least no_demand).step.to ≤ e.step.to) (take l.k l.demands)
