use Rattle.row_text.proofs.Adds.{adds_stopped, first_added}
use Rattle.answer_parts.proofs.Added.{then_adds}
use Rattle.capacity_report.specs.Answers.{critical_rows}
use Rattle.capacity_report.proofs.compressed.rows_with_chain.Goals as goal

pub returns-in_err-rows_with_trains : goal.returns-in_err-rows_with_trains
returns-in_err-rows_with_trains c = adds_stopped _ c.from_residual.result c.from_residual.ensures.1 (first_added (critical_rows c.args.plan.now c.args.plan.now.critical) c.in_err-rows_with_trains.ensures)

pub returns : goal.returns
returns c = then_adds c.critical_rows.new.sheet (critical_rows c.args.plan.now c.args.plan.now.critical) c.critical_rows.result c.in_ok-rows_with_trains.ensures c.critical_rows.ensures
