use Rattle.std.proofs.Common.{ℕ, ◌<◌, length, get_or, ◌∙◌, subst}
use Rattle.line_tables.specs.declared.linked.Linked.{Linked}
use Rattle.line_tables.specs.KeySet.{holds}
use Rattle.line_tables.proofs.RunPaths.{all_at, images_more}
use Rattle.line_tables.proofs.passing.runs_on.Goals as goal

pub bounds-slice-0 : goal.bounds-slice-0
bounds-slice-0 c =
    let P : ℕ × Linked _ → Type 0 = λ u. 0 < length u.1.refs in
    let one = all_at P c.args.runs.now c.loop-number.number c.nth.result.now c.nth.ensures.item c.requires in
    rw c.slice.ensures (subst (λ (x : Linked _). 0 < length x.refs) one.1 one.2)

pub loop-number-preserved : goal.loop-number-preserved
loop-number-preserved c =
    c.in_ok-push.ensures.items
    ∙ images_more (λ (x : Linked _). holds c.args.routes.now (get_or x.refs 0 0)) c.args.runs.now c.loop-number.number c.nth.result.now c.loop-number.all.items c.has_key.result c.nth.ensures.item c.loop-number.invariant
    (rw c.slice.ensures at c.has_key.ensures)
