use Rattle.critical_chain.proofs.Behind as Behind
use Rattle.critical_chain.proofs.laws.chain_is_of.Goals as goal

pub returns : goal.returns
returns c = Behind.chain_is_of
