use Rattle.std.proofs.Common.{rules}
use Rattle.train_placing.proofs.plan.placed_at.Goals as goal

pub returns : goal.returns
returns c = search rules
