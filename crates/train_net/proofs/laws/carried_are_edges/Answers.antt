use Rattle.train_net.proofs.Carried as Carried
use Rattle.train_net.proofs.laws.carried_are_edges.Goals as goal

pub returns : goal.returns
returns c = Carried.carried_are_edges
