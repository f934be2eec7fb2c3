use Rattle.train_order.proofs.Next.{comes_next}
use Rattle.cycle_time.proofs.laying.lay_in_turn.Goals as goal

pub lay_train-requires-clause-next : goal.lay_train-requires-clause-next
lay_train-requires-clause-next c =
    comes_next c.args.cut.now c.args.order.now c.requires.order c.requires.sound c.loop-k.k c.loop-k-test.true
