use Rattle.compression.proofs.Fewer as Fewer
use Rattle.compression.proofs.laws.none_is_later_without.Goals as goal

pub returns : goal.returns
returns c = Fewer.none_is_later_without
