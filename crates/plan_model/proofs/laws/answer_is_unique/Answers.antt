use Rattle.plan_model.proofs.Unique as Unique
use Rattle.plan_model.proofs.laws.answer_is_unique.Goals as goal

pub returns : goal.returns
returns c = Unique.answer_is_unique
