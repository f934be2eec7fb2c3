use Rattle.delay_spread.proofs.SomeSpread as SomeSpread
use Rattle.delay_spread.proofs.laws.spread_is_there.Goals as goal

pub returns : goal.returns
returns c = SomeSpread.spread_is_there
