use Rattle.capacity_report.proofs.Totals as Totals
use Rattle.capacity_report.proofs.laws.total_adds_up.Goals as goal

pub returns : goal.returns
returns c = Totals.total_adds_up
