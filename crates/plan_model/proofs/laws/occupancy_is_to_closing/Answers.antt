use Rattle.plan_model.proofs.Closing as Closing
use Rattle.plan_model.proofs.laws.occupancy_is_to_closing.Goals as goal

pub returns : goal.returns
returns c = Closing.occupancy_is_to_closing
