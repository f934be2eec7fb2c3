use Rattle.plan_model.proofs.Growing as Growing
use Rattle.plan_model.proofs.journal_laws.longer_agrees.Goals as goal

pub returns : goal.returns
returns c = Growing.longer_agrees
