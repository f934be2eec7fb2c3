use Rattle.std.proofs.Common.{take}
use Rattle.section_cut.specs.Starts.{StartsBetween}
use Rattle.section_cut.proofs.all_stairways.starts_of.Given as goal

-- between which moments the uses so far start
abbrev pub invariant-loop-one : goal.invariant-loop-one
invariant-loop-one l = StartsBetween l.starts (take l.one-index l.uses)
