use Rattle.std.proofs.Common.{rules}
use Rattle.delay_spread.proofs.spreading.floor.Goals as goal

pub returns : goal.returns
returns c = search rules
