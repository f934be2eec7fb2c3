use Rattle.made_line.proofs.AnyOrder as AnyOrder
use Rattle.made_line.proofs.laws.any_order_makes_one.Goals as goal

pub returns : goal.returns
returns c = AnyOrder.any_order_makes_one
