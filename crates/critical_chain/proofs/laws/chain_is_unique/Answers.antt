use Rattle.critical_chain.proofs.Unique as Unique
use Rattle.critical_chain.proofs.laws.chain_is_unique.Goals as goal

pub returns : goal.returns
returns c = Unique.chain_is_unique
