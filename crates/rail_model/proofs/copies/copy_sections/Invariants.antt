use Rattle.std.proofs.Common.{◌≡◌, take}
use Rattle.rail_model.proofs.copies.copy_sections.Given as goal

abbrev pub invariant-loop-section : goal.invariant-loop-section
invariant-loop-section l = l.others ≡ take l.section-index l.sections
