use Rattle.section_cut.specs.Wanted.{IsAddedTo}
use Rattle.section_cut.proofs.wanted_blocks.add_blocks.Given as goal

abbrev pub invariant-loop-at : goal.invariant-loop-at
invariant-loop-at l = IsAddedTo l.positions l.blocks l.at l.initial.told l.told
