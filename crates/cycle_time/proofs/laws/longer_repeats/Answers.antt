use Rattle.cycle_time.proofs.Repeated.{longer_repeats}
use Rattle.cycle_time.proofs.laws.longer_repeats.Goals as goal

pub returns : goal.returns
returns c = longer_repeats
