use Rattle.plan_model.proofs.Unique as Unique
use Rattle.plan_model.proofs.laws.least_is_unique.Goals as goal

pub returns : goal.returns
returns c = Unique.least_is_unique
