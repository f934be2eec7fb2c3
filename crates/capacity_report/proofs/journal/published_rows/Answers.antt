use Rattle.std.proofs.Common.{[], ◌∷◌, ap}
use Rattle.row_text.specs.SheetRows.{SheetRows}
use Rattle.row_text.proofs.Adds.{adds_then}
use Rattle.capacity_report.specs.declared.answers.Detail.TheVariants as detail
use Rattle.capacity_report.specs.Answers.{answer_rows}
use Rattle.capacity_report.specs.Rows.{published_row}
use Rattle.capacity_report.proofs.Rows.{adds_from}
use Rattle.capacity_report.proofs.journal.published_rows.Goals as goal

pub returns : goal.returns
returns c =
    let later = c.published_row.new.sheet in
    let after = c.answer_rows.new.sheet in
    let added = answer_rows c.args.section.now c.args.answer.now detail.Trains in
    adds_then c.args.sheet.now later after (published_row c.args.section.now c.args.at ∷ []) added c.answer_rows.result
    (ap (λ (s : SheetRows). s.rows) c.in_ok-published_row.ensures)
    (adds_from later after added c.answer_rows.result c.answer_rows.ensures.ok c.answer_rows.ensures.closed c.answer_rows.ensures.err)
