use Rattle.std.proofs.Common.{List, sym, ap, subst, ◌∙◌}
use Rattle.std.specs.Prelude.{Option, slice_index}
use Rattle.plan_model.specs.declared.cut.CutRow.{CutRow}
use Rattle.train_net.specs.declared.near.Near.{Near}
use Rattle.train_net.specs.Gathered.{AreAhead, AreCovered}
use Rattle.train_net.proofs.Anew.{ahead_by, anew}
use Rattle.train_net.proofs.mending.edges_at.Goals as goal

pub edges_from-requires-clause-ahead : goal.edges_from-requires-clause-ahead
edges_from-requires-clause-ahead c =
    let j = slice_index c.args.order.now c.args.at in
    let uses = c.slice.ensures ∙ ap (λ (r : CutRow). r.uses) c.row.ensures.row in
    subst (AreAhead c.args.cut.now j) (sym c.deref-2.ensures.value)
    (ahead_by c.args.cut.now c.args.order.now c.requires.there c.row.ensures.sound c.args.at c.requires.within c.in_ok-near.near.items
    c.in_ok-near.ensures.near c.deref.result.now c.slice.result.now c.deref.ensures.value uses
    (c.are_ahead.ensures.0 c.if-not-are_ahead.false))

pub returns : goal.returns
returns c =
    let j = slice_index c.args.order.now c.args.at in
    let uses = c.slice.ensures ∙ ap (λ (r : CutRow). r.uses) c.row.ensures.row in
    let edges = c.in_ok-edges_from.field-0 in
    let ahead =
    ahead_by c.args.cut.now c.args.order.now c.requires.there c.row.ensures.sound c.args.at c.requires.within c.in_ok-near.near.items
    c.in_ok-near.ensures.near c.deref.result.now c.slice.result.now c.deref.ensures.value uses
    (c.are_ahead.ensures.0 c.if-not-are_ahead.false) in
    anew c.args.cut.now c.args.order.now c.requires.there c.row.ensures.sound c.args.at c.requires.within c.in_ok-near.near.items
    c.in_ok-near.ensures.near edges ahead c.in_ok-edges_from.ensures.real
    (subst (λ (ns : List (Option Near)). AreCovered c.args.cut.now j ns edges) c.deref-2.ensures.value c.in_ok-edges_from.ensures.covered)
