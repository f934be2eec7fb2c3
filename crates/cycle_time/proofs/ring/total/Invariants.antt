use Rattle.std.proofs.Common.{◌≡◌, ◌*◌, take}
use Rattle.std.specs.Prelude.{pos, ◌-ℤ◌, ◌≤ℤ◌}
use Rattle.cycle_time.specs.Cycle.{total}
use Rattle.cycle_time.proofs.ring.total.Given as goal

abbrev pub invariant-loop-k : goal.invariant-loop-k
invariant-loop-k l =
    (l.sum ≡ total l.cut (take l.k l.ring)) × ((pos 0 -ℤ pos (l.k * 200000000)) ≤ℤ l.sum)
    × (l.sum ≤ℤ pos (l.k * 200000000))
