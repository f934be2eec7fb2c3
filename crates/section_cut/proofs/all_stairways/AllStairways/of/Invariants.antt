use Rattle.std.proofs.Common.{take}
use Rattle.section_cut.specs.Spans.{AreLookedAt}
use Rattle.section_cut.proofs.all_stairways.AllStairways.of.Given as goal

-- the stairways so far
abbrev pub invariant-loop-stair : goal.invariant-loop-stair
invariant-loop-stair l = AreLookedAt (take l.stair-index l.stair-items) l.starts.items l.over
