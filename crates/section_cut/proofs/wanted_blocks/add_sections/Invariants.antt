use Rattle.section_cut.proofs.Wanted.{AreTold}
use Rattle.section_cut.proofs.wanted_blocks.add_sections.Given as goal

-- the blocks of the sections so far are told
abbrev pub invariant-loop-section : goal.invariant-loop-section
invariant-loop-section l = AreTold l.tables l.block l.section l.told
