use Rattle.std.proofs.Common.{◌∙◌, rules, subst, sym}
use Rattle.std.specs.Prelude.{IfSome}
use Rattle.rail_model.specs.declared.stair.Use.{Use}
use Rattle.plan_model.specs.Cut.{IsMoment}
use Rattle.plan_model.proofs.Sound.{of_found, usable_row}
use Rattle.headway_table.proofs.pair.end_in.Goals as goal

pub after_entry-requires-clause-time : goal.after_entry-requires-clause-time
after_entry-requires-clause-time c =
    let row = c.args.row.now in
    let ends = of_found (λ (u : Use). IsMoment u.«end») row.uses c.args.place (λ i d l. (c.requires.row.sound.each i d l).ends) in
    let found : IsMoment c.in-Some.one.«end» =
    subst (λ o. IfSome o (λ (u : Use). IsMoment u.«end»)) (sym c.use_of.ensures ∙ c.in-Some.is) ends in
    search (rules, found)

pub after_entry-requires-clause-entry : goal.after_entry-requires-clause-entry
after_entry-requires-clause-entry c =
    let entry = (usable_row c.requires.row.cut c.args.row.now c.requires.row.sound).entry in
    search (rules, entry)
