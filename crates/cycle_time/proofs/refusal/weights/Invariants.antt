use Rattle.std.proofs.Common.{◌≡◌, ◌*◌, take}
use Rattle.std.specs.Prelude.{pos, ◌-ℤ◌, ◌≤ℤ◌}
use Rattle.cycle_time.specs.Rings.{weights}
use Rattle.cycle_time.proofs.refusal.weights.Given as goal

abbrev pub invariant-loop-k : goal.invariant-loop-k
invariant-loop-k l =
    (l.sum ≡ weights (take l.k l.demands)) × ((pos 0 -ℤ pos (l.k * 200000000)) ≤ℤ l.sum) × (l.sum ≤ℤ pos (l.k * 200000000))
