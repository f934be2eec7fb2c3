use Rattle.plan_model.proofs.TrueRing as TrueRing
use Rattle.plan_model.proofs.laws.ring_is_true.Goals as goal

pub returns : goal.returns
returns c = TrueRing.ring_is_true
