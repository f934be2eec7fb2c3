use Rattle.std.proofs.Common.{◌<◌, take, sym, subst}
use Rattle.std.specs.List.{All}
use Rattle.plan_model.specs.Cut.{IsSoundCut}
use Rattle.train_order.specs.declared.visits.Visit.{Visit}
use Rattle.train_order.specs.Visits.{AreInTurn}
use Rattle.train_order.proofs.InTurn.{all_there, taken_in}
use Rattle.train_order.proofs.precedence.put_preceded_at.Goals as goal

pub take_in_earlier-requires-clause-there : goal.take_in_earlier-requires-clause-there
take_in_earlier-requires-clause-there c =
    let cut = c.args.cut.now in
    let some = take c.visits_at-count.result c.visits_at-count.new.room in
    subst (λ n. All (λ (v : Visit). v.member < n) some) (sym c.requires.count)
    (all_there cut c.args.place some (subst (λ k. AreInTurn k c.args.place some) c.sound.ensures.cut c.visits_at-count.ensures.visits))

pub returns-clause-sets : goal.returns-clause-sets
returns-clause-sets c =
    let cut = c.args.cut.now in
    let some = take c.visits_at-count.result c.visits_at-count.new.room in
    taken_in cut (subst IsSoundCut c.sound.ensures.cut c.visits_at-count.ensures.sound) c.args.place some
    (subst (λ k. AreInTurn k c.args.place some) c.sound.ensures.cut c.visits_at-count.ensures.visits)
    c.args.sets.now c.take_in_earlier.new.sets c.take_in_earlier.ensures.sets
