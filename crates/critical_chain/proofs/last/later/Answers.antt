use Rattle.std.proofs.Common.{rules}
use Rattle.critical_chain.proofs.last.later.Goals as goal

pub returns-in-Some : goal.returns-in-Some
returns-in-Some c = search rules
