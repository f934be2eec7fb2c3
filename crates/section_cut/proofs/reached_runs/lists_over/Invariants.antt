use Rattle.std.proofs.Common.{map, take}
use Rattle.section_cut.specs.ReachedRuns.{uses_if_there}
use Rattle.section_cut.specs.Spans.{AreOver}
use Rattle.section_cut.proofs.reached_runs.lists_over.Given as goal

-- the stairs so far
abbrev pub invariant-loop-stair : goal.invariant-loop-stair
invariant-loop-stair l = AreOver (map uses_if_there (take l.stair-index l.stairs)) l.over
