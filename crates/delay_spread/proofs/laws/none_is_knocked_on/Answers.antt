use Rattle.delay_spread.proofs.Later as Later
use Rattle.delay_spread.proofs.laws.none_is_knocked_on.Goals as goal

pub returns : goal.returns
returns c = Later.none_is_knocked_on
