use Rattle.path_fill.proofs.Merged as Merged
use Rattle.path_fill.proofs.laws.members_enter_as_compressed.Goals as goal

pub returns : goal.returns
returns c = Merged.members_enter_as_compressed
