use Rattle.std.proofs.Common.{rules}
use Rattle.critical_chain.proofs.touched.has_tie.Goals as goal

pub returns-in-Start : goal.returns-in-Start
returns-in-Start c = search rules
