use Rattle.train_net.proofs.Solved as Solved
use Rattle.train_net.proofs.laws.solved_is_least.Goals as goal

pub returns : goal.returns
returns c = Solved.solved_is_least
