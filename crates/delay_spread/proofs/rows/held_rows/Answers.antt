use Rattle.std.proofs.Common.{arith}
use Rattle.row_text.proofs.Adds.{adds_none, adds_stopped}
use Rattle.answer_parts.proofs.Added.{all_none, all_one, numbers_more, numbers_within, numbers_all}
use Rattle.plan_model.specs.Members.{member_count}
use Rattle.delay_spread.specs.Spreading.{held_row}
use Rattle.delay_spread.proofs.rows.held_rows.Goals as goal

pub loop-i-init : goal.loop-i-init
loop-i-init c = all_none c.args.sheet.now c.drop_row.new.self c.drop_row.ensures.rows c.drop_row.ensures.row

pub returns-in_err-held_row : goal.returns-in_err-held_row
returns-in_err-held_row c =
    adds_stopped _ c.from_residual.result c.from_residual.ensures.1
    (numbers_within (held_row c.args.cut.now c.args.held.now) (member_count c.args.cut.now) c.loop-i.i
    (omega (arith, c.loop-i-test.true, c.member_count-i-end.ensures.count)) c.loop-i.invariant (adds_none _ c.in_err-held_row.ensures))

pub loop-i-preserved : goal.loop-i-preserved
loop-i-preserved c =
    numbers_more (held_row c.args.cut.now c.args.held.now) (member_count c.args.cut.now) c.loop-i.i
    (omega (arith, c.loop-i-test.true, c.member_count-i-end.ensures.count)) c.loop-i.invariant (all_one c.in_ok-held_row.ensures)

pub returns : goal.returns
returns c =
    numbers_all (held_row c.args.cut.now c.args.held.now) (member_count c.args.cut.now) c.loop-i.i
    (omega (arith, c.loop-i-test.false, c.member_count-i-end.ensures.count)) c.loop-i.invariant
