use Rattle.train_net.proofs.Agreeing.{AgreeUpto}
use Rattle.train_net.proofs.reordered.agrees.Given as goal

-- the kept ones of the first members stand as before
abbrev pub invariant-loop-member : goal.invariant-loop-member
invariant-loop-member l = AgreeUpto l.origin l.before l.order l.member-index l.from
