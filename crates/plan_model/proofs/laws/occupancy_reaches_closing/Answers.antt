use Rattle.plan_model.proofs.Reaching as Reaching
use Rattle.plan_model.proofs.laws.occupancy_reaches_closing.Goals as goal

pub returns : goal.returns
returns c = Reaching.occupancy_reaches_closing
