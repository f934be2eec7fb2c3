use Rattle.cycle_time.proofs.Repeated.{schedule_repeats}
use Rattle.cycle_time.proofs.laws.schedule_repeats.Goals as goal

pub returns : goal.returns
returns c = schedule_repeats
