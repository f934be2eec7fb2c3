use Rattle.std.proofs.Common.{subst}
use Rattle.answer_parts.proofs.Added.{adds_row}
use Rattle.capacity_report.specs.Answers.{opposite_row, crowded_row, IsAnswerOfSome}
use Rattle.capacity_report.proofs.Plans.{shown_in}
use Rattle.capacity_report.proofs.answers.rows_of.Goals as goal

pub plan_rows-requires-clause-shown : goal.plan_rows-requires-clause-shown
plan_rows-requires-clause-shown c = shown_in c.in-Ordered.plan (subst IsAnswerOfSome c.in-Ordered.is c.requires)

pub returns-in-Opposite : goal.returns-in-Opposite
returns-in-Opposite c =
    let o = c.in-Opposite in
    rw o.is (adds_row c.args.sheet.now c.opposite_row.new.sheet (opposite_row c.args.section.now o.first o.second o.block1 o.block2) c.opposite_row.result c.opposite_row.ensures)

pub returns-in-Crowded : goal.returns-in-Crowded
returns-in-Crowded c =
    rw c.in-Crowded.is (adds_row c.args.sheet.now c.crowded_row.new.sheet (crowded_row c.args.section.now c.in-Crowded.count) c.crowded_row.result c.crowded_row.ensures)
