use Rattle.delay_spread.proofs.SomeSpread as SomeSpread
use Rattle.delay_spread.proofs.laws.spreading_is_there.Goals as goal

pub returns : goal.returns
returns c = SomeSpread.spreading_is_there
