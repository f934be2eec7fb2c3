use Rattle.conflict_finder.proofs.Unique as Unique
use Rattle.conflict_finder.proofs.laws.found_is_unique.Goals as goal

pub returns : goal.returns
returns c = Unique.found_is_unique
