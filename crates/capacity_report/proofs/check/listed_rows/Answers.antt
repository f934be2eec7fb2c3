use Rattle.std.proofs.Common.{[], ◌∷◌, map, ap}
use Rattle.std.proofs.lemmas.List.{map-append}
use Rattle.row_text.proofs.Adds.{adds_none, adds_stopped}
use Rattle.answer_parts.proofs.Added.{all_none, all_one, items_more, items_within, items_all}
use Rattle.capacity_report.specs.Rows.{conflict_row}
use Rattle.capacity_report.proofs.check.listed_rows.Goals as goal

pub loop-conflict-init : goal.loop-conflict-init
loop-conflict-init c = all_none c.args.sheet.now c.drop_row.new.self c.drop_row.ensures.rows c.drop_row.ensures.row

pub returns-in_err-conflict_row : goal.returns-in_err-conflict_row
returns-in_err-conflict_row c =
    adds_stopped _ c.from_residual.result c.from_residual.ensures.1
    (items_within (map (conflict_row c.args.tables.now)) (map-append (conflict_row c.args.tables.now)) c.args.listed.now c.loop-conflict.conflict-index c.conflict-item.result c.loop-conflict-test.true
    (ap (λ x. conflict_row c.args.tables.now x ∷ []) c.conflict-item.is) c.loop-conflict.invariant (adds_none _ c.in_err-conflict_row.ensures))

pub loop-conflict-preserved : goal.loop-conflict-preserved
loop-conflict-preserved c =
    items_more (map (conflict_row c.args.tables.now)) (map-append (conflict_row c.args.tables.now)) c.args.listed.now c.loop-conflict.conflict-index c.conflict-item.result c.loop-conflict-test.true
    (ap (λ x. conflict_row c.args.tables.now x ∷ []) c.conflict-item.is) c.loop-conflict.invariant (all_one c.in_ok-conflict_row.ensures)

pub returns : goal.returns
returns c = items_all (map (conflict_row c.args.tables.now)) (map-append (conflict_row c.args.tables.now)) c.args.listed.now c.loop-conflict.conflict-index c.loop-conflict-test.false c.loop-conflict.invariant
