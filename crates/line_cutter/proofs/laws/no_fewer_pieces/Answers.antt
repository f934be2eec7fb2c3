use Rattle.line_cutter.proofs.Along as Along
use Rattle.line_cutter.proofs.laws.no_fewer_pieces.Goals as goal

pub returns : goal.returns
returns c = Along.no_fewer_pieces
