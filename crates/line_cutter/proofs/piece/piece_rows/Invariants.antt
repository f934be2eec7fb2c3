use Rattle.std.proofs.Common.{◌≡◌, map, take}
use Rattle.std.specs.Prelude.{filter}
use Rattle.line_cutter.specs.Cutting.{uses_piece, piece_row}
use Rattle.line_cutter.proofs.piece.piece_rows.Given as goal

abbrev pub invariant-loop-k : goal.invariant-loop-k
invariant-loop-k l = l.some ≡ map (piece_row l.a l.b) (filter (uses_piece l.a l.b) (take l.k l.rows))
