use Rattle.std.proofs.Common.{rules}
use Rattle.train_placing.proofs.tie.better.Goals as goal

pub returns-then-comes_first-clause-same : goal.returns-then-comes_first-clause-same
returns-then-comes_first-clause-same c = search rules
