use Rattle.std.proofs.Common.{◌≡◌, take}
use Rattle.std.specs.List.{fold}
use Rattle.std.specs.Int.{int_min}
use Rattle.rail_model.specs.declared.stair.Use.{Use}
use Rattle.plan_model.proofs.cut.least_start.Given as goal

-- the least start so far
abbrev pub invariant-loop-one : goal.invariant-loop-one
invariant-loop-one l = l.entry ≡ fold (λ a (u : Use). int_min a u.start) l.initial.entry (take l.one-index l.one-items)
