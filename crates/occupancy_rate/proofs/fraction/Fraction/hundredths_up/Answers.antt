use Rattle.std.proofs.Common.{rules}
use Rattle.occupancy_rate.proofs.fraction.Fraction.hundredths_up.Goals as goal

pub returns : goal.returns
returns c = search rules
