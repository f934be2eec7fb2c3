use Rattle.delay_spread.proofs.Unique as Unique
use Rattle.delay_spread.proofs.laws.spread_is_unique.Goals as goal

pub returns : goal.returns
returns c = Unique.spread_is_unique
