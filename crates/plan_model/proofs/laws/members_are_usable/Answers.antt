use Rattle.plan_model.proofs.Sound as Sound
use Rattle.plan_model.proofs.laws.members_are_usable.Goals as goal

pub returns : goal.returns
returns c = Sound.members_are_usable
