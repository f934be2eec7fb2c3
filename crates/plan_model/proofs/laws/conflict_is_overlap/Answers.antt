use Rattle.plan_model.proofs.Overlap as Overlap
use Rattle.plan_model.proofs.laws.conflict_is_overlap.Goals as goal

pub returns : goal.returns
returns c = Overlap.conflict_is_overlap
