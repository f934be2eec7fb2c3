use Rattle.section_cut.specs.Positions.{AreSameTo}
use Rattle.section_cut.proofs.positions.same_first.Given as goal

-- the uses so far are those of the stairway
abbrev pub invariant-loop-i : goal.invariant-loop-i
invariant-loop-i l = AreSameTo l.positions l.uses l.stairway l.i
