use Rattle.plan_model.proofs.Order as Order
use Rattle.plan_model.proofs.laws.comes_before_is_tested.Goals as goal

pub returns : goal.returns
returns c = Order.comes_before_is_tested
