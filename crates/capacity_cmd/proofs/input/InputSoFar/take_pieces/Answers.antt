use Rattle.std.proofs.Common.{◌≡◌, [], length, drop, ap, ◌∙◌, arith}
use Rattle.std.proofs.lemmas.List.{drop_all, length-drop}
use Rattle.row_text.specs.Rows.{rows_of}
use Rattle.capacity_cmd.proofs.Making.{taken_all}
use Rattle.capacity_cmd.proofs.RowCount.{row_count}
use Rattle.row_text.proofs.TextPieces.{rows_of-nil}
use Rattle.capacity_cmd.proofs.TextRows.{piece_rows, left_after}
use Rattle.capacity_cmd.proofs.input.InputSoFar.take_pieces.Goals as goal

pub take_rows-requires-clause-piece : goal.take_rows-requires-clause-piece
take_rows-requires-clause-piece c =
    let left = c.loop-from.invariant.left in
    let ends = c.piece_end-end.ensures in
    record {
      rest = rows_of (drop c.piece_end-end.result c.args.text.now);
      rows = piece_rows c.args.text.now c.loop-from.from c.piece_end-end.result c.loop-from.before c.in_ok-found.found left ends.within.1 ends.rows ends.rest c.in_ok-found.ensures;
      few = left.few;
    }

pub overflow_add-before : goal.overflow_add-before
overflow_add-before c =
    let left = c.loop-from.invariant.left in
    let ends = c.piece_end-end.ensures in
    let after = left_after c.args.text.now c.loop-from.from c.piece_end-end.result c.loop-from.before c.in_ok-found.found left ends.within.1 ends.rows ends.rest c.in_ok-found.ensures in
    omega (arith, after.few, c.len-before.ensures, row_count c.args.text.now, c.requires.small)

pub loop-from-preserved : goal.loop-from-preserved
loop-from-preserved c =
    let left = c.loop-from.invariant.left in
    let ends = c.piece_end-end.ensures in
    rw c.len-before.ensures (record {
      left = left_after c.args.text.now c.loop-from.from c.piece_end-end.result c.loop-from.before c.in_ok-found.found left ends.within.1 ends.rows ends.rest c.in_ok-found.ensures;
      taken = c.in_ok-take_rows.ensures;
    })

pub returns : goal.returns
returns c =
    let text = c.args.text.now in
    let all = rows_of text in
    let left = c.loop-from.invariant.left in
    let none : drop c.loop-from.before all ≡ [] = left.rows ∙ ap rows_of (drop_all c.loop-from.from text c.loop-from-test.false) ∙ rows_of-nil in
    taken_all c.args.planners c.args.version c.loop-from.before all c.loop-from.self (omega (arith, ap length none, length-drop c.loop-from.before all))
    c.loop-from.invariant.taken
