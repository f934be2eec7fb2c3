use Rattle.cycle_time.proofs.Refused.{shorter_is_refused}
use Rattle.cycle_time.proofs.laws.shorter_is_refused.Goals as goal

pub returns : goal.returns
returns c = shorter_is_refused
