use Rattle.plan_model.proofs.Tied as Tied
use Rattle.plan_model.proofs.laws.tied_is_least.Goals as goal

pub returns : goal.returns
returns c = Tied.tied_is_least
