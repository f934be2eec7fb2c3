use Rattle.train_net.proofs.Compared as Compared
use Rattle.train_net.proofs.laws.compared_follow.Goals as goal

pub returns : goal.returns
returns c = Compared.compared_follow
