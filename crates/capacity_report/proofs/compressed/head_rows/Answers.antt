use Rattle.std.proofs.Common.{[], ◌∷◌}
use Rattle.row_text.proofs.Adds.{adds_none, adds_stopped}
use Rattle.answer_parts.proofs.Added.{adds_row, all_one, then_adds}
use Rattle.capacity_report.specs.Answers.{rate_row}
use Rattle.capacity_report.proofs.compressed.head_rows.Goals as goal

pub returns-in_err-ordered_row : goal.returns-in_err-ordered_row
returns-in_err-ordered_row c = adds_stopped _ c.from_residual.result c.from_residual.ensures.1 (adds_none _ c.in_err-ordered_row.ensures)

pub returns : goal.returns
returns c =
    let row = rate_row c.args.section.now c.args.plan.now in
    let last = adds_row c.ordered_row.new.sheet c.rate_row.new.sheet row c.rate_row.result c.rate_row.ensures in
    then_adds c.rate_row.new.sheet (row ∷ []) c.rate_row.result (all_one c.in_ok-ordered_row.ensures) last
