use Rattle.std.proofs.Common.{List, sym, ap, subst, ◌∙◌, arith, length, length-append, ◌++◌, ◌∷◌, []}
use Rattle.std.specs.Prelude.{reverse}
use Rattle.plan_model.specs.declared.answer.Link.{Link}
use Rattle.critical_chain.specs.Chain.{Leads}
use Rattle.critical_chain.proofs.Walk.{HasWalked, none_behind, at_first, train_there, place_there, more_left, one_more}
use Rattle.critical_chain.proofs.links.chain.Goals as goal

pub loop-before-init : goal.loop-before-init
loop-before-init c =
    let plan = c.args.plan.now in
    let train = c.args.train in
    subst (λ (ls : List Link). HasWalked plan train ls train) (sym c.new-links.ensures.items)
    (at_first plan train c.requires.there)

pub link-requires-clause-train : goal.link-requires-clause-train
link-requires-clause-train c =
    let plan = c.args.plan.now in
    let walked = c.loop-before.invariant in
    let tie = sym c.tie.ensures ∙ c.in-After.is in
    train_there plan c.requires.plan c.args.train c.loop-before.links.items c.loop-before.next walked _ _ tie

pub link-requires-clause-block : goal.link-requires-clause-block
link-requires-clause-block c =
    let plan = c.args.plan.now in
    let walked = c.loop-before.invariant in
    let tie = sym c.tie.ensures ∙ c.in-After.is in
    place_there plan c.requires.plan c.args.train c.loop-before.links.items c.loop-before.next walked _ _ tie

pub loop-before-smaller : goal.loop-before-smaller
loop-before-smaller c =
    let plan = c.args.plan.now in
    let links = c.loop-before.links.items in
    let walked = c.loop-before.invariant in
    let tie = sym c.tie.ensures ∙ c.in-After.is in
    omega (
      arith,
      more_left plan c.requires.plan c.args.train links c.loop-before.next walked _ _ tie,
      ap length c.in_ok-push.ensures.items,
      length-append links (c.link.result ∷ []),
    )

pub loop-before-preserved : goal.loop-before-preserved
loop-before-preserved c =
    let plan = c.args.plan.now in
    let walked = c.loop-before.invariant in
    let tie = sym c.tie.ensures ∙ c.in-After.is in
    one_more plan c.requires.plan c.args.train c.loop-before.links.items c.loop-before.next walked _ _ tie
    c.push.new.self.items c.link.result c.in_ok-push.ensures.items c.link.ensures

pub returns : goal.returns
returns c =
    let plan = c.args.plan.now in
    let walked = c.loop-before.invariant in
    let start = sym c.tie.ensures ∙ c.in_default.is in
    record {
      chain = (
        c.loop-before.next,
        walked.there,
        start,
        subst (λ (ls : List Link). Leads plan c.loop-before.next ls c.args.train) (sym c.turn_round.ensures) walked.leads,
      );
      same =
          c.turn_round.ensures
          ∙ sym (walked.behind
          ∙ ap (λ (ls : List Link). ls ++ reverse c.loop-before.links.items) (none_behind plan _ c.loop-before.next start));
    }
