use Rattle.plan_model.proofs.LeastTied as LeastTied
use Rattle.plan_model.proofs.laws.least_is_tied.Goals as goal

pub returns : goal.returns
returns c = LeastTied.least_is_tied
