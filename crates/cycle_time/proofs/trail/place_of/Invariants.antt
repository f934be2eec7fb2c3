use Rattle.std.proofs.Common.{◌≡◌, ◌<◌, ◌==◌, false, ℕ, get_or, map}
use Rattle.cycle_time.specs.Rings.{to_of}
use Rattle.cycle_time.proofs.trail.place_of.Given as goal

abbrev pub invariant-loop-k : goal.invariant-loop-k
invariant-loop-k l = (m : ℕ) → m < l.k → (get_or (map to_of l.trail) m 0 == l.train) ≡ false
