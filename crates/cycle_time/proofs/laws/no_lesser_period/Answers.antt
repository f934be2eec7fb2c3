use Rattle.cycle_time.proofs.Refused.{no_lesser_period}
use Rattle.cycle_time.proofs.laws.no_lesser_period.Goals as goal

pub returns : goal.returns
returns c = no_lesser_period
