use Rattle.plan_model.proofs.Reduced as Reduced
use Rattle.plan_model.proofs.laws.fraction_is_reduced.Goals as goal

pub returns : goal.returns
returns c = Reduced.fraction_is_reduced
