use Rattle.plan_model.proofs.Reduced as Reduced
use Rattle.plan_model.proofs.laws.reduced_is_unique.Goals as goal

pub returns : goal.returns
returns c = Reduced.reduced_is_unique
