use Rattle.plan_model.specs.Members.{place_count}
use Rattle.train_order.specs.Visits.{AreVisits}
use Rattle.train_order.proofs.visits.visits_by_place.Given as goal

-- the lists have the visits of the members so far
abbrev pub invariant-loop-i : goal.invariant-loop-i
invariant-loop-i l = AreVisits l.cut l.i (place_count l.cut) l.lists.items
