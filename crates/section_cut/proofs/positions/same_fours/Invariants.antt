use Rattle.std.proofs.Common.{◌*◌}
use Rattle.section_cut.specs.Positions.{AreSameTo}
use Rattle.section_cut.proofs.positions.same_fours.Given as goal

-- the fours so far are those of the stairway
abbrev pub invariant-loop-four : goal.invariant-loop-four
invariant-loop-four l = AreSameTo l.positions l.uses l.stairway (4 * l.four)
