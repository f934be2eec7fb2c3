use Rattle.std.proofs.Common.{◌≡◌, ℕ, ◌<◌, get_or, Option, None}
use Rattle.rail_model.specs.declared.stair.Stair.{Stair}
use Rattle.section_cut.proofs.reach.reaches_some.Given as goal

-- none so far
abbrev pub invariant-loop-stair : goal.invariant-loop-stair
invariant-loop-stair l = (k : ℕ) (d : Option Stair) → k < l.stair-index → get_or l.stairs k d ≡ None
