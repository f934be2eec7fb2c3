use Rattle.delay_spread.proofs.Later as Later
use Rattle.delay_spread.proofs.laws.enters_by_its_knock_on.Goals as goal

pub returns : goal.returns
returns c = Later.enters_by_its_knock_on
