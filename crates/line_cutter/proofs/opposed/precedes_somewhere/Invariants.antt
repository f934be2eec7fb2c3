use Rattle.std.proofs.Common.{◌≡◌, ℕ, ◌<◌, false}
use Rattle.plan_model.specs.Members.{member}
use Rattle.plan_model.specs.Members as given
use Rattle.line_cutter.proofs.opposed.precedes_somewhere.Given as goal

abbrev pub invariant-loop-place : goal.invariant-loop-place
invariant-loop-place l = (p : ℕ) → p < l.place → given.precedes (member l.cut l.i) (member l.cut l.j) p ≡ false
