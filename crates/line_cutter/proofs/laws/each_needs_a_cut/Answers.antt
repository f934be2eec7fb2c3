use Rattle.line_cutter.proofs.Along as Along
use Rattle.line_cutter.proofs.laws.each_needs_a_cut.Goals as goal

pub returns : goal.returns
returns c = Along.each_needs_a_cut
