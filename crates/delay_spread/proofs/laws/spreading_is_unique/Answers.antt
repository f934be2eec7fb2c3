use Rattle.delay_spread.proofs.Unique as Unique
use Rattle.delay_spread.proofs.laws.spreading_is_unique.Goals as goal

pub returns : goal.returns
returns c = Unique.spreading_is_unique
