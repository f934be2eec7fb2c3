use Rattle.train_net.specs.Mending.{AreRemadeUpto}
use Rattle.train_net.proofs.mending.remade.Given as goal

-- the edges to the first members
abbrev pub invariant-loop-member : goal.invariant-loop-member
invariant-loop-member l = AreRemadeUpto l.cut l.earlier.origin.now l.earlier.now.now l.marks l.order l.earlier.edges.now l.member l.edges
