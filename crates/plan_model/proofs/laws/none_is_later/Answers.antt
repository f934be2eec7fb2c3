use Rattle.plan_model.proofs.Planned as Planned
use Rattle.plan_model.proofs.laws.none_is_later.Goals as goal

pub returns : goal.returns
returns c = Planned.none_is_later
