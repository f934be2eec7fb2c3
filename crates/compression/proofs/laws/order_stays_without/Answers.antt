use Rattle.compression.proofs.FewerOrder as FewerOrder
use Rattle.compression.proofs.laws.order_stays_without.Goals as goal

pub returns : goal.returns
returns c = FewerOrder.order_stays_without
