use Rattle.plan_model.proofs.Preceded as Preceded
use Rattle.plan_model.proofs.laws.preceded_remain.Goals as goal

pub returns : goal.returns
returns c = Preceded.preceded_remain
