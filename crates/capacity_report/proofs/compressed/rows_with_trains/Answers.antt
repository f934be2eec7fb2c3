use Rattle.row_text.proofs.Adds.{adds_stopped, first_added}
use Rattle.answer_parts.proofs.Added.{then_adds}
use Rattle.capacity_report.specs.Answers.{train_rows}
use Rattle.capacity_report.proofs.compressed.rows_with_trains.Goals as goal

pub returns-in_err-head_rows : goal.returns-in_err-head_rows
returns-in_err-head_rows c = adds_stopped _ c.from_residual.result c.from_residual.ensures.1 (first_added (train_rows c.args.plan.now) c.in_err-head_rows.ensures)

pub returns : goal.returns
returns c = then_adds c.train_rows.new.sheet (train_rows c.args.plan.now) c.train_rows.result c.in_ok-head_rows.ensures c.train_rows.ensures
