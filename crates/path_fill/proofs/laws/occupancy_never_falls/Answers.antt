use Rattle.path_fill.proofs.Falls as Falls
use Rattle.path_fill.proofs.laws.occupancy_never_falls.Goals as goal

pub returns : goal.returns
returns c = Falls.occupancy_never_falls
