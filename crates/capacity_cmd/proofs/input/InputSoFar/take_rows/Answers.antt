use Rattle.std.proofs.Common.{◌+◌, ◌<◌, [], get_or, length, ap, subst, arith}
use Rattle.row_text.specs.Lines.{read_in}
use Rattle.row_text.specs.Rows.{rows_of}
use Rattle.capacity_cmd.specs.InputSoFar.{TakesRow, HasTaken}
use Rattle.capacity_cmd.proofs.Making.{few_edits, taken_more, not_taken}
use Rattle.capacity_cmd.proofs.TextRows.{row_at, row_counted, row_small}
use Rattle.capacity_cmd.proofs.input.InputSoFar.take_rows.Goals as goal

pub take_row-requires-clause-counted : goal.take_row-requires-clause-counted
take_row-requires-clause-counted c =
    let piece = c.args.piece in
    let below : c.loop-i.i < length piece.rows.now = rw (← c.len-i-end.ensures) c.loop-i-test.true in
    omega (arith, row_small piece c.requires.piece c.loop-i.i below c.requires.small)

pub take_row-requires-clause-few : goal.take_row-requires-clause-few
take_row-requires-clause-few c =
    few_edits c.args.planners c.args.version (c.args.piece.before + c.loop-i.i) (rows_of c.args.piece.text.now) c.loop-i.self c.loop-i.invariant

pub overflow_add-result : goal.overflow_add-result
overflow_add-result c =
    let piece = c.args.piece in
    let below : c.loop-i.i < length piece.rows.now = rw (← c.len-i-end.ensures) c.loop-i-test.true in
    omega (arith, row_small piece c.requires.piece c.loop-i.i below c.requires.small)

pub overflow_add-result-in-Some : goal.overflow_add-result-in-Some
overflow_add-result-in-Some c =
    let piece = c.args.piece in
    let below : c.loop-i.i < length piece.rows.now = rw (← c.len-i-end.ensures) c.loop-i-test.true in
    omega (arith, row_small piece c.requires.piece c.loop-i.i below c.requires.small)

pub loop-i-preserved : goal.loop-i-preserved
loop-i-preserved c =
    let piece = c.args.piece in
    let all = rows_of piece.text.now in
    let i = c.loop-i.i in
    let n = piece.before + i in
    let below : i < length piece.rows.now = rw (← c.len-i-end.ensures) c.loop-i-test.true in
    let here = row_at all piece.rows.now c.requires.piece.rest piece.before c.requires.piece.rows i below in
    let found = read_in c.args.version (get_or piece.rows.now i []) in
    let more = taken_more c.args.planners c.args.version n all c.loop-i.self c.take_row.new.self found (row_counted piece c.requires.piece i below) c.loop-i.invariant
    (ap (read_in c.args.version) here)
    (subst (TakesRow c.args.planners (n + 1) found c.loop-i.self c.take_row.new.self) c.in_default.is c.in_ok-cause.ensures) in
    subst (HasTaken c.args.planners c.args.version all c.take_row.new.self) (omega arith) more

pub returns-in-Some : goal.returns-in-Some
returns-in-Some c =
    let piece = c.args.piece in
    let all = rows_of piece.text.now in
    let i = c.loop-i.i in
    let n = piece.before + i in
    let below : i < length piece.rows.now = rw (← c.len-i-end.ensures) c.loop-i-test.true in
    let here = row_at all piece.rows.now c.requires.piece.rest piece.before c.requires.piece.rows i below in
    let found = read_in c.args.version (get_or piece.rows.now i []) in
    not_taken c.args.planners c.args.version n all c.loop-i.self c.take_row.new.self found c.in-Some.cause (row_counted piece c.requires.piece i below) c.loop-i.invariant
    (ap (read_in c.args.version) here)
    (subst (TakesRow c.args.planners (n + 1) found c.loop-i.self c.take_row.new.self) c.in-Some.is c.in_ok-cause.ensures)

pub returns : goal.returns
returns c =
    subst (HasTaken c.args.planners c.args.version (rows_of c.args.piece.text.now) c.loop-i.self)
    (omega (arith, c.loop-i-test.false, c.len-i-end.ensures, c.loop-i.auto.i-end, c.requires.start)) c.loop-i.invariant
