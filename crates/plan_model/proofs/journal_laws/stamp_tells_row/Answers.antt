use Rattle.plan_model.proofs.Stamps as Stamps
use Rattle.plan_model.proofs.journal_laws.stamp_tells_row.Goals as goal

pub returns : goal.returns
returns c = Stamps.stamp_tells_row
