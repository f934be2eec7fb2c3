use Rattle.rail_model.proofs.Edited as Edited
use Rattle.rail_model.proofs.laws.sound_after_edits.Goals as goal

pub returns : goal.returns
returns c = Edited.sound_after_edits
