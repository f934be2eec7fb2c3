use Rattle.std.proofs.Common.{rules}
use Rattle.train_placing.proofs.plan.critical.Goals as goal

pub returns-in-Some : goal.returns-in-Some
returns-in-Some c = search rules
