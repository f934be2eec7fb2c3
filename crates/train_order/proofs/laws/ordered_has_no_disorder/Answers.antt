use Rattle.train_order.proofs.Unique.{ordered_has_no_disorder}
use Rattle.train_order.proofs.laws.ordered_has_no_disorder.Goals as goal

pub returns : goal.returns
returns c = ordered_has_no_disorder
