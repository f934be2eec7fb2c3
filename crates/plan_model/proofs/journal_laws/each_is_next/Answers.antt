use Rattle.plan_model.proofs.Legality as Legality
use Rattle.plan_model.proofs.journal_laws.each_is_next.Goals as goal

pub returns : goal.returns
returns c = Legality.each_is_next
