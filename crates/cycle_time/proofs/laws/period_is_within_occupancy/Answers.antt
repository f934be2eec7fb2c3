use Rattle.cycle_time.proofs.Repeated.{period_is_within_occupancy}
use Rattle.cycle_time.proofs.laws.period_is_within_occupancy.Goals as goal

pub returns : goal.returns
returns c = period_is_within_occupancy
