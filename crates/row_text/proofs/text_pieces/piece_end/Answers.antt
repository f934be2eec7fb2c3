use Rattle.std.proofs.Common.{arith}
use Rattle.row_text.proofs.TextPieces.{parts-all, parts-line}
use Rattle.row_text.proofs.text_pieces.piece_end.Goals as goal

pub returns-then-text-from-le-PIECE_BYTES-clause-rows : goal.returns-then-text-from-le-PIECE_BYTES-clause-rows
returns-then-text-from-le-PIECE_BYTES-clause-rows c = (parts-all c.args.text.now c.args.from).0

pub returns-clause-rows : goal.returns-clause-rows
returns-clause-rows c = (parts-all c.args.text.now c.args.from).0

pub returns-then-not-starts_with_mark-clause-rows : goal.returns-then-not-starts_with_mark-clause-rows
returns-then-not-starts_with_mark-clause-rows c =
    (parts-line c.args.text.now c.args.from c.loop-i.i c.requires.plain (omega arith) (omega arith) c.if-ends_line.ensures c.if-not-starts_with_mark.ensures.1).0

pub returns-then-not-starts_with_mark-clause-rest : goal.returns-then-not-starts_with_mark-clause-rest
returns-then-not-starts_with_mark-clause-rest c =
    (parts-line c.args.text.now c.args.from c.loop-i.i c.requires.plain (omega arith) (omega arith) c.if-ends_line.ensures c.if-not-starts_with_mark.ensures.1).1
