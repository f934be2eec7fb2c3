use Rattle.plan_model.proofs.Order as Order
use Rattle.plan_model.proofs.laws.uses_are_apart.Goals as goal

pub returns : goal.returns
returns c = Order.uses_are_apart
