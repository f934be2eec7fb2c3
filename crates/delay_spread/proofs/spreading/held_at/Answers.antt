use Rattle.std.proofs.Common.{rules}
use Rattle.delay_spread.proofs.spreading.held_at.Goals as goal

pub returns : goal.returns
returns c = search rules
