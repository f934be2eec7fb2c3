use Rattle.capacity_cmd.proofs.MadeOne as MadeOne
use Rattle.capacity_cmd.proofs.laws.made_is_one.Goals as goal

pub returns : goal.returns
returns c = MadeOne.made_is_one
