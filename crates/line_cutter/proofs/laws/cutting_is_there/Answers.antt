use Rattle.line_cutter.proofs.SomeCutting as SomeCutting
use Rattle.line_cutter.proofs.laws.cutting_is_there.Goals as goal

pub returns : goal.returns
returns c = SomeCutting.cutting_is_there
