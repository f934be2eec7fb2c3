use Rattle.line_cutter.proofs.Unique as Unique
use Rattle.line_cutter.proofs.laws.cutting_is_unique.Goals as goal

pub returns : goal.returns
returns c = Unique.cutting_is_unique
