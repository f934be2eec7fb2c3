use Rattle.capacity_cmd.proofs.TextRows.{begins_with_piece, begins_with_all, some_rows}
use Rattle.capacity_cmd.proofs.input.accepted_of_text.Goals as goal

pub accepted_after-requires-clause-first : goal.accepted_after-requires-clause-first
accepted_after-requires-clause-first c =
    let ends = c.piece_end-end.ensures in
    begins_with_piece c.args.text.now c.piece_end-end.result c.in_ok-first.first ends.within.1 ends.rows ends.rest c.in_ok-first.ensures
    (some_rows c.is_empty.result c.in_ok-first.first c.if-not-is_empty.true c.is_empty.ensures.1)

pub accepted_after-requires-2-clause-first : goal.accepted_after-requires-2-clause-first
accepted_after-requires-2-clause-first c = begins_with_all c.args.text.now c.in_ok-all.all c.in_ok-all.ensures
