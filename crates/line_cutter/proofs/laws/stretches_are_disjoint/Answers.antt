use Rattle.line_cutter.proofs.Along as Along
use Rattle.line_cutter.proofs.laws.stretches_are_disjoint.Goals as goal

pub returns : goal.returns
returns c = Along.stretches_are_disjoint
