use Rattle.line_tables.proofs.RunPaths.{images_more}
use Rattle.line_tables.proofs.line_tables.plain_items.Goals as goal

pub loop-number-preserved : goal.loop-number-preserved
loop-number-preserved g c =
    rw c.in_ok-push.ensures.ok
    (images_more (λ e. e.item) c.args.table.now c.loop-number.number c.nth.result.now c.loop-number.items c.in_ok-clone.field-0 c.nth.ensures.item c.loop-number.invariant
    (g.met.T.TableItem.copies c.nth.result.now.item c.in_ok-clone.field-0 c.in_ok-clone.ensures.cases))
