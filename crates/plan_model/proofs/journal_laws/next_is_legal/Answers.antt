use Rattle.plan_model.proofs.Legality as Legality
use Rattle.plan_model.proofs.journal_laws.next_is_legal.Goals as goal

pub returns : goal.returns
returns c = Legality.next_is_legal
