use Rattle.train_net.proofs.Following as Following
use Rattle.train_net.proofs.laws.following_is_order.Goals as goal

pub returns : goal.returns
returns c = Following.following_is_order
