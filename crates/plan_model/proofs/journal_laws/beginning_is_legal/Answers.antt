use Rattle.plan_model.proofs.Legality as Legality
use Rattle.plan_model.proofs.journal_laws.beginning_is_legal.Goals as goal

pub returns : goal.returns
returns c = Legality.beginning_is_legal
