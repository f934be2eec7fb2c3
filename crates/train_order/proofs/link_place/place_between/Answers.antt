use Rattle.std.proofs.Common.{◌<◌, ap, sym, subst, ◌∙◌}
use Rattle.plan_model.specs.declared.cut.CutRow.{CutRow}
use Rattle.plan_model.specs.Members.{place_count, place_name}
use Rattle.train_order.proofs.Linked.{linked_by}
use Rattle.train_order.proofs.link_place.place_between.Goals as goal

pub place_name-requires : goal.place_name-requires
place_name-requires c =
    let there = linked_by c.args.cut.now c.row.ensures.sound c.args.i c.args.j c.requires.one c.requires.other
    c.slice-uses.result.now (c.slice-uses.ensures ∙ ap (λ (r : CutRow). r.uses) c.row.ensures.row) c.first_place.result
    c.requires.precedes c.first_place.ensures in
    subst (λ p. p < place_count c.args.cut.now) (sym c.unwrap_or-place.ensures) there.0

pub returns : goal.returns
returns c =
    let there = linked_by c.args.cut.now c.row.ensures.sound c.args.i c.args.j c.requires.one c.requires.other
    c.slice-uses.result.now (c.slice-uses.ensures ∙ ap (λ (r : CutRow). r.uses) c.row.ensures.row) c.first_place.result
    c.requires.precedes c.first_place.ensures in
    c.place_name.ensures ∙ ap (place_name c.args.cut.now) c.unwrap_or-place.ensures ∙ there.1
