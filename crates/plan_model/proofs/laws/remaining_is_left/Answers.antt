use Rattle.plan_model.proofs.Remaining as Remaining
use Rattle.plan_model.proofs.laws.remaining_is_left.Goals as goal

pub returns : goal.returns
returns c = Remaining.remaining_is_left
