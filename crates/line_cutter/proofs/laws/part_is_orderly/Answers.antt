use Rattle.line_cutter.proofs.Whole as Whole
use Rattle.line_cutter.proofs.laws.part_is_orderly.Goals as goal

pub returns : goal.returns
returns c = Whole.part_is_orderly
