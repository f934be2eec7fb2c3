use Rattle.line_cutter.proofs.OverPiece as OverPiece
use Rattle.line_cutter.proofs.laws.over_piece_is_orderly.Goals as goal

pub returns : goal.returns
returns c = OverPiece.over_piece_is_orderly
