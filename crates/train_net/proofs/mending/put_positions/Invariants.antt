use Rattle.train_net.specs.Mending.{AreNow}
use Rattle.train_net.proofs.mending.put_positions.Given as goal

abbrev pub invariant-loop-i : goal.invariant-loop-i
invariant-loop-i l = AreNow l.origin l.now
