use Rattle.std.proofs.Common.{rules}
use Rattle.critical_chain.proofs.links.turn_round.Goals as goal

pub returns : goal.returns
returns c = search rules
