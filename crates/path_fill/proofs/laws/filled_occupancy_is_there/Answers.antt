use Rattle.path_fill.proofs.SomeFill as SomeFill
use Rattle.path_fill.proofs.laws.filled_occupancy_is_there.Goals as goal

pub returns : goal.returns
returns c = SomeFill.filled_occupancy_is_there
