use Rattle.line_cutter.proofs.Along as Along
use Rattle.line_cutter.proofs.laws.each_is_longest.Goals as goal

pub returns : goal.returns
returns c = Along.each_is_longest
