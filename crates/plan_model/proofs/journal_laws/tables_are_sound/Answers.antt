use Rattle.plan_model.proofs.Legality as Legality
use Rattle.plan_model.proofs.journal_laws.tables_are_sound.Goals as goal

pub returns : goal.returns
returns c = Legality.tables_are_sound
