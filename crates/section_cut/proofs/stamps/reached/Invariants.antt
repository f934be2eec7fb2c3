use Rattle.section_cut.specs.Stamps.{AreBefore}
use Rattle.section_cut.proofs.stamps.reached.Given as goal

abbrev pub invariant-loop-at : goal.invariant-loop-at
invariant-loop-at l = AreBefore l.rows l.name l.at
