use Rattle.train_net.proofs.Entered.{AreEntered}
use Rattle.train_net.proofs.entering.enter_each.Given as goal

-- the first trains of the order have entered
abbrev pub invariant-loop-train : goal.invariant-loop-train
invariant-loop-train l = AreEntered l.cut l.order l.edges l.train-index l.entries
