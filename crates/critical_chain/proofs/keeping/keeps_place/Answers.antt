use Rattle.std.proofs.Common.{take, sym, subst, arith}
use Rattle.std.proofs.lemmas.List.{get_or_default}
use Rattle.plan_model.specs.declared.answer.Placed.{Placed}
use Rattle.plan_model.specs.Cut.{IsSoundCut}
use Rattle.train_order.specs.Visits.{AreInTurn}
use Rattle.critical_chain.specs.Chain.{no_train}
use Rattle.critical_chain.specs.Parts.{IsWithin, tie_in}
use Rattle.critical_chain.proofs.Tied.{within}
use Rattle.critical_chain.proofs.InTurn.{in_turn, kept}
use Rattle.critical_chain.proofs.keeping.keeps_place.Goals as goal

pub follow_in_turn-requires-clause-sound : goal.follow_in_turn-requires-clause-sound
follow_in_turn-requires-clause-sound c = subst IsSoundCut c.sound.ensures.cut c.visits_at-count.ensures.sound

pub follow_in_turn-requires-clause-visits : goal.follow_in_turn-requires-clause-visits
follow_in_turn-requires-clause-visits c =
    subst (λ k. AreInTurn k c.args.place (take c.visits_at-count.result c.visits_at-count.new.room)) c.sound.ensures.cut
    c.visits_at-count.ensures.visits

pub follow_in_turn-requires-clause-ties : goal.follow_in_turn-requires-clause-ties
follow_in_turn-requires-clause-ties c k d l =
    let cut = c.args.cut.now in
    let placed = c.args.placed.now in
    let here = c.requires.ties k (omega (arith, l, c.requires.placed)) in
    subst (λ (p : Placed). IsWithin cut p.tie) (sym (get_or_default placed k d no_train l))
    (within cut c.args.entries.now k (tie_in placed k) here)

pub returns : goal.returns
returns c =
    let cut = c.args.cut.now in
    let entries = c.args.entries.now in
    let placed = c.args.placed.now in
    let some = take c.visits_at-count.result c.visits_at-count.new.room in
    let sound = subst IsSoundCut c.sound.ensures.cut c.visits_at-count.ensures.sound in
    let are = subst (λ k. AreInTurn k c.args.place some) c.sound.ensures.cut c.visits_at-count.ensures.visits in (
      λ t. kept cut entries placed c.args.place sound some are (c.follow_in_turn.ensures.0 t),
      λ k. c.follow_in_turn.ensures.1 (in_turn cut entries placed c.args.place sound some are k),
    )
