use Rattle.plan_model.proofs.Working as Working
use Rattle.plan_model.proofs.journal_laws.calls_leave_journals.Goals as goal

pub returns : goal.returns
returns c = Working.calls_leave_journals
