use Rattle.std.proofs.Common.{◌≡◌, map, take}
use Rattle.rail_model.specs.declared.stair.Use.{Use}
use Rattle.section_cut.proofs.spans.blocks_of.Given as goal

-- the blocks so far
abbrev pub invariant-loop-one : goal.invariant-loop-one
invariant-loop-one l = l.blocks.items ≡ map (λ (u : Use). u.block) (take l.one-index l.uses)
