use Rattle.train_net.proofs.Read as Read
use Rattle.train_net.proofs.laws.read_are_placed.Goals as goal

pub returns : goal.returns
returns c = Read.read_are_placed
