use Rattle.std.proofs.Common.{map, refl}
use Rattle.std.proofs.lemmas.List.{map-append}
use Rattle.row_text.proofs.Adds.{adds_stopped}
use Rattle.answer_parts.proofs.Added.{all_none, items_more, items_within, items_all}
use Rattle.cycle_time.specs.Cycle.{step_row}
use Rattle.cycle_time.proofs.rows.step_rows.Goals as goal

pub loop-step-init : goal.loop-step-init
loop-step-init c = all_none c.args.sheet.now c.drop_row.new.self c.drop_row.ensures.rows c.drop_row.ensures.row

pub returns-in_err-step_row : goal.returns-in_err-step_row
returns-in_err-step_row c =
    let row = step_row c.args.cut.now in
    adds_stopped _ c.from_residual.result c.from_residual.ensures.1
    (items_within (map row) (map-append row) c.args.steps.now c.loop-step.step-index _ c.loop-step-test.true
    refl c.loop-step.invariant c.in_err-step_row.ensures)

pub loop-step-preserved : goal.loop-step-preserved
loop-step-preserved c =
    let row = step_row c.args.cut.now in
    items_more (map row) (map-append row) c.args.steps.now c.loop-step.step-index _ c.loop-step-test.true
    refl c.loop-step.invariant c.in_ok-step_row.ensures

pub returns : goal.returns
returns c =
    let row = step_row c.args.cut.now in
    items_all (map row) (map-append row) c.args.steps.now c.loop-step.step-index c.loop-step-test.false c.loop-step.invariant
