use Rattle.train_order.proofs.Unique.{disorder_is_unique}
use Rattle.train_order.proofs.laws.disorder_is_unique.Goals as goal

pub returns : goal.returns
returns c = disorder_is_unique
