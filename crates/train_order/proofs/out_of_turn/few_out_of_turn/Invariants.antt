use Rattle.train_order.proofs.Turn.{HaveTurn}
use Rattle.train_order.proofs.out_of_turn.few_out_of_turn.Given as goal

abbrev pub invariant-loop-i : goal.invariant-loop-i
invariant-loop-i l = HaveTurn l.cut l.positions l.apart.words l.i-index l.last
