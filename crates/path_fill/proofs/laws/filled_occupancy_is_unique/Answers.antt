use Rattle.path_fill.proofs.Unique as Unique
use Rattle.path_fill.proofs.laws.filled_occupancy_is_unique.Goals as goal

pub returns : goal.returns
returns c = Unique.filled_occupancy_is_unique
