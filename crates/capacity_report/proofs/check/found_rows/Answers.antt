use Rattle.std.proofs.Common.{[], ◌∷◌, length}
use Rattle.row_text.proofs.Adds.{adds_stopped, first_added}
use Rattle.answer_parts.proofs.Added.{adds_row, then_adds}
use Rattle.capacity_report.specs.Rows.{count_row}
use Rattle.capacity_report.proofs.check.found_rows.Goals as goal

pub returns-in_err-listed_rows : goal.returns-in_err-listed_rows
returns-in_err-listed_rows c =
    let found = c.args.found.now in
    adds_stopped _ c.from_residual.result c.from_residual.ensures.1
    (first_added (count_row (length found.list) found.more ∷ []) (rw c.slice.ensures at c.in_err-listed_rows.ensures))

pub returns : goal.returns
returns c =
    let found = c.args.found.now in
    let row = count_row c.len.result found.more in
    let last = adds_row c.listed_rows.new.sheet c.count_row.new.sheet row c.count_row.result c.count_row.ensures in
    rw (← c.len.ensures.count) (then_adds c.count_row.new.sheet (row ∷ []) c.count_row.result (rw c.slice.ensures at c.in_ok-listed_rows.ensures) last)
