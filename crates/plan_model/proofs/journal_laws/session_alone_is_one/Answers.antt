use Rattle.plan_model.proofs.Alone as Alone
use Rattle.plan_model.proofs.journal_laws.session_alone_is_one.Goals as goal

pub returns : goal.returns
returns c = Alone.session_alone_is_one
