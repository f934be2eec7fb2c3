use Rattle.std.proofs.Common.{rules}
use Rattle.blocking_time.proofs.moments.parts_at.Goals as goal

pub returns : goal.returns
returns c = search rules
