use Rattle.cycle_time.proofs.Repeated.{cycles_are_alike}
use Rattle.cycle_time.proofs.laws.cycles_are_alike.Goals as goal

pub returns : goal.returns
returns c = cycles_are_alike
