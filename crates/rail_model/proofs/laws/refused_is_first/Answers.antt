use Rattle.rail_model.proofs.Edited as Edited
use Rattle.rail_model.proofs.laws.refused_is_first.Goals as goal

pub returns : goal.returns
returns c = Edited.refused_is_first
