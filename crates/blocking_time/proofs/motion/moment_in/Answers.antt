use Rattle.std.proofs.Common.{rules}
use Rattle.blocking_time.proofs.motion.moment_in.Goals as goal

pub returns-clause-moment : goal.returns-clause-moment
returns-clause-moment c = search rules
