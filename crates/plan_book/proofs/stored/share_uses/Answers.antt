use Rattle.std.proofs.Common.{◌≡◌, List, get_or, set, sym, ap, ◌∙◌}
use Rattle.std.proofs.lemmas.List.{set-get_or}
use Rattle.std.proofs.lemmas.Option.{get_or_from_slice_get}
use Rattle.plan_model.specs.declared.cut.Cut.{Cut}
use Rattle.plan_model.specs.declared.cut.CutRow.{CutRow}
use Rattle.plan_book.proofs.stored.share_uses.Goals as goal

pub loop-place-preserved : goal.loop-place-preserved
loop-place-preserved c =
    let rows = c.loop-place.cut.rows in
    let row = c.get_mut.result.now in
    let there : get_or rows c.loop-place.place row ≡ row = get_or_from_slice_get rows c.loop-place.place row row c.get_mut.ensures.item in
    rw c.make_shared.ensures
    (ap (λ (rs : List CutRow). let cut : Cut = record c.loop-place.cut { rows = rs } in cut)
    (ap (set rows c.loop-place.place) (sym there) ∙ set-get_or rows c.loop-place.place row)
    ∙ c.loop-place.invariant)
