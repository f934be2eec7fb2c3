use Rattle.plan_model.proofs.Rising as Rising
use Rattle.plan_model.proofs.journal_laws.publications_rise.Goals as goal

pub returns : goal.returns
returns c = Rising.publications_rise
