use Rattle.std.proofs.Common.{◌+◌, take, sym, subst, ◌∙◌}
use Rattle.std.proofs.lemmas.List.{take_all}
use Rattle.plan_model.specs.Members.{place_count, member, AnswersFirst}
use Rattle.train_order.specs.Starts.{places_first}
use Rattle.train_order.proofs.FirstPlace.{found, not_leading, not_first, best_within}
use Rattle.train_order.proofs.link_place.first_place.Goals as goal
use Rattle.train_order.proofs.link_place.first_place.Goals.{then-leads+then-starts_first, else-leads, else-leads-via-then-leads+else-starts_first, else-leads-via-else-leads}

pub leads-requires-clause-best : goal.leads-requires-clause-best
leads-requires-clause-best c =
    best_within c.args.cut.now c.args.named c.args.uses.now (member c.args.cut.now c.args.j).uses c.loop-one.one-index c.loop-one-test.true
    c.loop-one.best c.loop-one.invariant (place_count c.args.cut.now) c.requires.there

pub loop-one-preserved : goal.loop-one-preserved
loop-one-preserved c =
    let cut = c.args.cut.now in
    let with_it = places_first c.args.named (take (c.loop-one.one-index + 1) c.args.uses.now) (member c.args.cut.now c.args.j).uses in
    elim c.if-leads.branch [
      | then-leads+then-starts_first w ↦
          subst (λ o. AnswersFirst cut with_it o) (sym w.best-is)
          (found cut c.args.named c.args.uses.now (member c.args.cut.now c.args.j).uses c.loop-one.one-index c.loop-one-test.true c.loop-one.best
          c.loop-one.invariant (sym c.leads.ensures ∙ w.if-leads.true) (sym w.starts_first.ensures ∙ w.if-starts_first.true))
      | else-leads w ↦
          subst (λ o. AnswersFirst cut with_it o) (sym w.best-is)
          (elim w.else-leads.branch [
            | else-leads-via-then-leads+else-starts_first v ↦
                not_first cut c.args.named c.args.uses.now (member c.args.cut.now c.args.j).uses c.loop-one.one-index c.loop-one-test.true c.loop-one.best
                c.loop-one.invariant (sym v.starts_first.ensures ∙ v.if-starts_first.false)
            | else-leads-via-else-leads v ↦
                not_leading cut c.args.named c.args.uses.now (member c.args.cut.now c.args.j).uses c.loop-one.one-index c.loop-one-test.true c.loop-one.best
                c.loop-one.invariant (sym c.leads.ensures ∙ v.if-leads.false)
          ])
    ]

pub returns : goal.returns
returns c =
    subst (λ us. AnswersFirst c.args.cut.now (places_first c.args.named us (member c.args.cut.now c.args.j).uses) c.loop-one.best)
    (take_all c.loop-one.one-index c.args.uses.now c.loop-one-test.false) c.loop-one.invariant
