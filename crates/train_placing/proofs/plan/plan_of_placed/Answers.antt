use Rattle.train_placing.proofs.Laid.{all_bounded}
use Rattle.train_placing.proofs.plan.plan_of_placed.Goals as goal

pub occupancy-kept-requires-clause-bounded : goal.occupancy-kept-requires-clause-bounded
occupancy-kept-requires-clause-bounded c =
    let at = c.requires.placed in
    all_bounded c.args.cut.now at.0 c.args.entries.now c.args.ties.now c.args.last.now c.sound.ensures.sound
    c.sound.ensures.few at.1 at.2
