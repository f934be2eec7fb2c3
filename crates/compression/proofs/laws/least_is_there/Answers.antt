use Rattle.compression.proofs.SomeLeast as SomeLeast
use Rattle.compression.proofs.laws.least_is_there.Goals as goal

pub returns : goal.returns
returns c = SomeLeast.least_is_there
