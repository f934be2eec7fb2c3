use Rattle.train_net.proofs.Compared as Compared
use Rattle.train_net.proofs.laws.unmarked_has_none_fresh.Goals as goal

pub returns : goal.returns
returns c = Compared.unmarked_has_none_fresh
