use Rattle.train_net.proofs.Carried as Carried
use Rattle.train_net.proofs.laws.mended_is_net.Goals as goal

pub returns : goal.returns
returns c = Carried.mended_is_net
