use Rattle.std.proofs.Common.{length}
use Rattle.row_text.proofs.Adds.{adds_stopped}
use Rattle.answer_parts.proofs.Added.{numbers_more, numbers_within, numbers_all}
use Rattle.line_cutter.specs.Rows.{piece_row}
use Rattle.line_cutter.proofs.rows.piece_rows.Goals as goal

pub returns-in_err-piece_row : goal.returns-in_err-piece_row
returns-in_err-piece_row c =
    adds_stopped _ c.from_residual.result c.from_residual.ensures.1
    (numbers_within (piece_row c.args.section.now c.args.ends.now) (length c.args.ends.now) c.loop-k.k c.loop-k-test.true
    c.loop-k.invariant c.in_err-piece_row.ensures)

pub loop-k-preserved : goal.loop-k-preserved
loop-k-preserved c =
    numbers_more (piece_row c.args.section.now c.args.ends.now) (length c.args.ends.now) c.loop-k.k c.loop-k-test.true
    c.loop-k.invariant c.in_ok-piece_row.ensures

pub returns : goal.returns
returns c =
    numbers_all (piece_row c.args.section.now c.args.ends.now) (length c.args.ends.now) c.loop-k.k c.loop-k-test.false
    c.loop-k.invariant
