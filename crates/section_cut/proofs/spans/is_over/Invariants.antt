use Rattle.std.proofs.Common.{◌≡◌, map, take}
use Rattle.rail_model.specs.declared.stair.Use.{Use}
use Rattle.section_cut.proofs.spans.is_over.Given as goal

-- the blocks so far
abbrev pub invariant-loop-place : goal.invariant-loop-place
invariant-loop-place l = map (λ (u : Use). u.block) (take l.place l.uses) ≡ take l.place l.list
