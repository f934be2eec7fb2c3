use Rattle.plan_model.proofs.Untouched as Untouched
use Rattle.plan_model.proofs.journal_laws.untouched_is_none_touches.Goals as goal

pub returns : goal.returns
returns c = Untouched.untouched_is_none_touches
