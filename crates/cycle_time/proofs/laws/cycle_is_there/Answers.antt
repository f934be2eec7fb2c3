use Rattle.cycle_time.proofs.SomeCycle.{cycle_is_there}
use Rattle.cycle_time.proofs.laws.cycle_is_there.Goals as goal

pub returns : goal.returns
returns c = cycle_is_there
