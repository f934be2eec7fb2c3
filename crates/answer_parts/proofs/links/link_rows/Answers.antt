use Rattle.std.proofs.Common.{[], ◌∷◌, map, ap}
use Rattle.std.proofs.lemmas.List.{map-append}
use Rattle.row_text.proofs.Adds.{adds_stopped}
use Rattle.answer_parts.proofs.Added.{all_none, items_more, items_within, items_all}
use Rattle.answer_parts.specs.Rows.{link_row}
use Rattle.answer_parts.proofs.links.link_rows.Goals as goal

pub loop-link-init : goal.loop-link-init
loop-link-init c = all_none c.args.sheet.now c.drop_row.new.self c.drop_row.ensures.rows c.drop_row.ensures.row

pub returns-in_err-link_row : goal.returns-in_err-link_row
returns-in_err-link_row c =
    adds_stopped _ c.from_residual.result c.from_residual.ensures.1
    (items_within (map link_row) (map-append link_row) c.args.links.now c.loop-link.link-index c.link-item.result c.loop-link-test.true
    (ap (λ link. link_row link ∷ []) c.link-item.is) c.loop-link.invariant c.in_err-link_row.ensures)

pub loop-link-preserved : goal.loop-link-preserved
loop-link-preserved c =
    items_more (map link_row) (map-append link_row) c.args.links.now c.loop-link.link-index c.link-item.result c.loop-link-test.true
    (ap (λ link. link_row link ∷ []) c.link-item.is) c.loop-link.invariant c.in_ok-link_row.ensures

pub returns : goal.returns
returns c = items_all (map link_row) (map-append link_row) c.args.links.now c.loop-link.link-index c.loop-link-test.false c.loop-link.invariant
