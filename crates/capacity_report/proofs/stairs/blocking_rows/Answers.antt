use Rattle.std.proofs.Common.{map}
use Rattle.std.proofs.lemmas.List.{map-append}
use Rattle.row_text.proofs.Adds.{adds_stopped}
use Rattle.answer_parts.proofs.Added.{first_kept, items_first, items_all}
use Rattle.capacity_report.specs.Blockings.{named_row}
use Rattle.capacity_report.proofs.stairs.blocking_rows.Goals as goal

pub returns-in_err-blocking_row : goal.returns-in_err-blocking_row
returns-in_err-blocking_row c =
    let row_of = named_row c.args.names.now c.args.head.now in
    let so_far = c.loop-blocking.invariant in
    adds_stopped _ c.from_residual.result c.from_residual.ensures.1
    (first_kept (items_first (map row_of) (map-append row_of) c.args.all.now c.loop-blocking.blocking-index (record { rows = so_far.rows; closed = so_far.closed }))
    c.in_err-blocking_row.ensures)

pub returns : goal.returns
returns c =
    let row_of = named_row c.args.names.now c.args.head.now in
    let so_far = c.loop-blocking.invariant in
    items_all (map row_of) (map-append row_of) c.args.all.now c.loop-blocking.blocking-index c.loop-blocking-test.false (record { rows = so_far.rows; closed = so_far.closed })
