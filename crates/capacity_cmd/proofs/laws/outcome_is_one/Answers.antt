use Rattle.capacity_cmd.proofs.OneOutcome as OneOutcome
use Rattle.capacity_cmd.proofs.laws.outcome_is_one.Goals as goal

pub returns : goal.returns
returns c = OneOutcome.outcome_is_one
