use Rattle.delay_spread.proofs.Greater as Greater
use Rattle.delay_spread.proofs.laws.none_is_earlier.Goals as goal

pub returns : goal.returns
returns c = Greater.none_is_earlier
