use Rattle.std.proofs.Common.{ℕ, ◌<◌}
use Rattle.cycle_time.specs.Demands.{KeepsPlace}
use Rattle.cycle_time.proofs.keeping.keeps_places.Given as goal

abbrev pub invariant-loop-place : goal.invariant-loop-place
invariant-loop-place l = (p : ℕ) → p < l.place → KeepsPlace l.cut l.period l.entries p
