use Rattle.std.proofs.Common.{map, refl}
use Rattle.std.proofs.lemmas.List.{map-append}
use Rattle.row_text.proofs.Adds.{adds_none, adds_stopped}
use Rattle.answer_parts.proofs.Added.{all_none, all_one, items_more, items_within, items_all}
use Rattle.critical_chain.specs.Chain.{no_train}
use Rattle.capacity_report.specs.Answers.{train_row}
use Rattle.capacity_report.proofs.compressed.train_rows.Goals as goal

pub loop-i-init : goal.loop-i-init
loop-i-init c = all_none c.args.sheet.now c.drop_row.new.self c.drop_row.ensures.rows c.drop_row.ensures.row

pub train_row-requires-clause-there : goal.train_row-requires-clause-there
train_row-requires-clause-there c = rw c.len-i-end.ensures at c.loop-i-test.true

pub train_row-requires-clause-train : goal.train_row-requires-clause-train
train_row-requires-clause-train c = c.requires.trains c.loop-i.i no_train (rw c.len-i-end.ensures at c.loop-i-test.true)

pub returns-in_err-train_row : goal.returns-in_err-train_row
returns-in_err-train_row c =
    adds_stopped _ c.from_residual.result c.from_residual.ensures.1
    (items_within (map (train_row c.args.plan.now)) (map-append (train_row c.args.plan.now)) c.args.plan.now.placed c.loop-i.i no_train (rw c.len-i-end.ensures at c.loop-i-test.true) refl c.loop-i.invariant (adds_none _ c.in_err-train_row.ensures))

pub loop-i-preserved : goal.loop-i-preserved
loop-i-preserved c =
    items_more (map (train_row c.args.plan.now)) (map-append (train_row c.args.plan.now)) c.args.plan.now.placed c.loop-i.i no_train (rw c.len-i-end.ensures at c.loop-i-test.true) refl c.loop-i.invariant (all_one c.in_ok-train_row.ensures)

pub returns : goal.returns
returns c = items_all (map (train_row c.args.plan.now)) (map-append (train_row c.args.plan.now)) c.args.plan.now.placed c.loop-i.i (rw c.len-i-end.ensures at c.loop-i-test.false) c.loop-i.invariant
