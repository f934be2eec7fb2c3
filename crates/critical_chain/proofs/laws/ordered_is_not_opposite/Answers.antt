use Rattle.critical_chain.proofs.Opposite as Opposite
use Rattle.critical_chain.proofs.laws.ordered_is_not_opposite.Goals as goal

pub returns : goal.returns
returns c = Opposite.ordered_is_not_opposite
