use Rattle.plan_model.proofs.Readings as Readings
use Rattle.plan_model.proofs.journal_laws.reading_may_be_published.Goals as goal

pub returns : goal.returns
returns c = Readings.reading_may_be_published
