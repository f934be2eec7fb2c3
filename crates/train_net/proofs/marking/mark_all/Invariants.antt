use Rattle.train_net.proofs.Marks.{HasMarked}
use Rattle.train_net.proofs.marking.mark_all.Given as goal

-- those at the first uses are marked
abbrev pub invariant-loop-one : goal.invariant-loop-one
invariant-loop-one l = HasMarked l.near l.uses l.initial.marks l.marks l.one-index
