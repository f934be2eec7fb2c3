use Rattle.std.proofs.Common.{rules}
use Rattle.plan_model.proofs.limits.is_crowded.Goals as goal

pub returns : goal.returns
returns c = search rules
