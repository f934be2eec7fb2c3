use Rattle.train_order.proofs.Next.{each_comes_next}
use Rattle.train_order.proofs.laws.each_comes_next.Goals as goal

pub returns : goal.returns
returns c = each_comes_next
