use Rattle.std.proofs.Common.{ℕ, Result, length, drop, refl, sym, ap, subst, ◌∙◌, Ok, arith, zero-add}
use Rattle.std.proofs.lemmas.Result.{err_from_is_err_and}
use Rattle.rail_model.specs.declared.form.Form.{Form}
use Rattle.row_text.specs.Rows.{rows_of}
use Rattle.capacity_cmd.specs.Input.{content_of_rows, content_in}
use Rattle.capacity_cmd.specs.InputSoFar.{accepted_in, HasTaken}
use Rattle.capacity_cmd.proofs.Making.{all_given, all_within, taken_none}
use Rattle.capacity_cmd.proofs.TextRows.{left_of_first, same_version, same_first_line, first_line_within, stopped}
use Rattle.capacity_cmd.proofs.input.accepted_after.Goals as goal

pub take_rows-requires-clause-piece : goal.take_rows-requires-clause-piece
take_rows-requires-clause-piece c =
    let first = c.requires.first in
    record { rest = rows_of (drop c.args.«end» c.args.text.now); rows = first.rows; few = omega arith }

pub take_pieces-requires-clause-left : goal.take_pieces-requires-clause-left
take_pieces-requires-clause-left c = rw c.len.ensures (left_of_first c.args.text.now c.args.first.now c.args.«end» c.requires.first)

pub take_rows-requires-clause-start : goal.take_rows-requires-clause-start
take_rows-requires-clause-start c = rw c.first_line.ensures (first_line_within c.args.first.now)

pub take_rows-requires-clause-so_far : goal.take_rows-requires-clause-so_far
take_rows-requires-clause-so_far c =
    subst (HasTaken c.args.planners c.in-Ok.version (rows_of c.args.text.now) _)
    (same_first_line c.args.text.now c.args.first.now c.args.«end» c.requires.first ∙ sym c.first_line.ensures ∙ sym (zero-add c.first_line.result))
    (taken_none c.args.planners c.in-Ok.version (rows_of c.args.text.now) _
    (record { tables = ap Ok c.new.ensures.empty; edits = refl; scripts = ap length c.new-2.ensures }))

pub returns-in_err-take_rows-clause-same : goal.returns-in_err-take_rows-clause-same
returns-in_err-take_rows-clause-same c =
    let known = same_version c.args.text.now c.args.first.now c.args.«end» c.requires.first ∙ sym c.version.ensures ∙ c.in-Ok.is in
    let why = err_from_is_err_and c.from_residual.result c.from_residual.ensures.1 in
    rw (why.1, why.2) (stopped c.args.planners c.in-Ok.version (rows_of c.args.text.now) c.in_err-take_rows.field-0.0 known c.in_err-take_rows.ensures)

pub returns-in_err-take_pieces-clause-same : goal.returns-in_err-take_pieces-clause-same
returns-in_err-take_pieces-clause-same c =
    let known = same_version c.args.text.now c.args.first.now c.args.«end» c.requires.first ∙ sym c.version.ensures ∙ c.in-Ok.is in
    let why = err_from_is_err_and c.from_residual-in_err-take_pieces.result c.from_residual-in_err-take_pieces.ensures.1 in
    rw (why.1, why.2) (stopped c.args.planners c.in-Ok.version (rows_of c.args.text.now) c.in_err-take_pieces.field-0.0 known c.in_err-take_pieces.ensures)

pub returns-clause-same : goal.returns-clause-same
returns-clause-same c =
    let all = rows_of c.args.text.now in
    all_given (content_of_rows c.args.planners all) c.take_pieces.new.self c.end.result
    (ap (λ (version : Result ℕ Form). accepted_in (content_in c.args.planners version all))
    (same_version c.args.text.now c.args.first.now c.args.«end» c.requires.first ∙ sym c.version.ensures ∙ c.in-Ok.is)
    ∙ c.in_ok-take_pieces.ensures.is)
    c.end.ensures.same

pub returns-clause-within : goal.returns-clause-within
returns-clause-within c =
    let took = c.in_ok-take_pieces.ensures in
    all_within c.args.planners (length (rows_of c.args.text.now)) c.take_pieces.new.self c.end.result c.end.ensures.same took.scripts took.edits
    c.end.ensures.tasks
