use Rattle.std.proofs.Common.{[], arith}
use Rattle.std.proofs.lemmas.List.{ext_get_or}
use Rattle.capacity_report.proofs.last_trains.are_same_places.Goals as goal

pub returns : goal.returns
returns c is = ext_get_or [] c.args.places.now c.args.last.now (omega arith) (λ k l. c.loop-i.invariant k (omega arith))
