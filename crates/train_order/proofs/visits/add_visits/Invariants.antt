use Rattle.std.proofs.Common.{take}
use Rattle.train_order.specs.Visits.{HasMore}
use Rattle.train_order.proofs.visits.add_visits.Given as goal

abbrev pub invariant-loop-one : goal.invariant-loop-one
invariant-loop-one l = HasMore l.fn.lists.items l.lists.items l.member (take l.one-index l.uses)
