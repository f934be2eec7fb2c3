use Rattle.std.proofs.Common.{ℕ, ◌<◌}
use Rattle.critical_chain.specs.Parts.{KeepsPlace}
use Rattle.critical_chain.proofs.checking.keeps_places.Given as goal

abbrev pub invariant-loop-place : goal.invariant-loop-place
invariant-loop-place l = (p : ℕ) → p < l.place → KeepsPlace l.cut l.entries l.placed p
