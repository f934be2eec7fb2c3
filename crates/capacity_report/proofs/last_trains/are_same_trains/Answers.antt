use Rattle.std.proofs.Common.{arith}
use Rattle.capacity_report.proofs.LastTrains.{trains_from}
use Rattle.capacity_report.proofs.last_trains.are_same_trains.Goals as goal

pub returns : goal.returns
returns c is = trains_from c.args.trains.now c.args.last.now (omega arith) (λ k l. c.loop-i.invariant k (omega arith))
