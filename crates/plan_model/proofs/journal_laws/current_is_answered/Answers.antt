use Rattle.plan_model.proofs.Touching as Touching
use Rattle.plan_model.proofs.journal_laws.current_is_answered.Goals as goal

pub returns : goal.returns
returns c = Touching.current_is_answered
