use Rattle.plan_model.proofs.Readings as Readings
use Rattle.plan_model.proofs.journal_laws.done_stays.Goals as goal

pub returns : goal.returns
returns c = Readings.done_stays
