use Rattle.std.proofs.Common.{map}
use Rattle.row_text.proofs.Adds.{adds_stopped, first_added}
use Rattle.answer_parts.proofs.Added.{then_adds}
use Rattle.cycle_time.specs.Cycle.{step_row}
use Rattle.cycle_time.proofs.rows.train_rows.Goals as goal

pub returns-in_err-slot_rows : goal.returns-in_err-slot_rows
returns-in_err-slot_rows c =
    adds_stopped _ c.from_residual.result c.from_residual.ensures.1
    (first_added (map (step_row c.args.cut.now) c.args.steps.now) c.in_err-slot_rows.ensures)

pub returns : goal.returns
returns c =
    then_adds c.step_rows.new.sheet (map (step_row c.args.cut.now) c.args.steps.now) c.step_rows.result
    c.in_ok-slot_rows.ensures c.step_rows.ensures
