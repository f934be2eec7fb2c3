use Rattle.std.proofs.Common.{◌-◌, length}
use Rattle.critical_chain.proofs.Walk.{HasWalked}
use Rattle.critical_chain.proofs.links.chain.Given as goal

abbrev pub invariant-loop-before : goal.invariant-loop-before
invariant-loop-before l = HasWalked l.plan l.fn.train l.links.items l.next

abbrev pub decreases-loop-before : goal.decreases-loop-before
decreases-loop-before l = length l.plan.placed - length l.links.items
