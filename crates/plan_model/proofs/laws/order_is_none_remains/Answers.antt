use Rattle.plan_model.proofs.Ordered as Ordered
use Rattle.plan_model.proofs.laws.order_is_none_remains.Goals as goal

pub returns : goal.returns
returns c = Ordered.order_is_none_remains
