use Rattle.std.proofs.Common.{◌<◌, length, get_or, ◌∙◌, arith, length-set}
use Rattle.train_order.specs.Visits.{no_visit}
use Rattle.train_order.proofs.Earlier.{earlier_more, sets_more}
use Rattle.train_order.proofs.precedence.take_in_earlier.Goals as goal

pub loop-visit-preserved : goal.loop-visit-preserved
loop-visit-preserved c =
    let inv = c.loop-visit.invariant in
    let visits = c.args.visits.now in
    let at = c.loop-visit.visit-index in
    let l : at < length visits = c.loop-visit-test.true in
    let there : (get_or visits at no_visit).member < length c.loop-visit.sets =
    omega (arith, c.requires.there at no_visit l, inv.count) in
    record {
      count = length-set c.loop-visit.sets _ c.take_in.new.self ∙ inv.count;
      earlier = earlier_more visits at l c.loop-visit.earlier.words c.insert.new.self.words inv.earlier c.insert.ensures;
      sets = sets_more visits at l c.args.sets.now c.loop-visit.sets c.loop-visit.earlier.words c.take_in.new.self there
          inv.earlier inv.sets c.take_in.ensures;
    }
