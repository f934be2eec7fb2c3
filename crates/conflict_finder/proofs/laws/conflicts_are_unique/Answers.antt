use Rattle.conflict_finder.proofs.Unique as Unique
use Rattle.conflict_finder.proofs.laws.conflicts_are_unique.Goals as goal

pub returns : goal.returns
returns c = Unique.conflicts_are_unique
