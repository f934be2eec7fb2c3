use Rattle.std.proofs.Common.{rules}
use Rattle.delay_spread.proofs.knock_on.knock_on.Goals as goal

pub returns : goal.returns
returns c = search rules
