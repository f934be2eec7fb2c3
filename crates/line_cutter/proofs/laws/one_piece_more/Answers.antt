use Rattle.line_cutter.proofs.Along as Along
use Rattle.line_cutter.proofs.laws.one_piece_more.Goals as goal

pub returns : goal.returns
returns c = Along.one_piece_more
