use Rattle.path_fill.proofs.OneFill as OneFill
use Rattle.path_fill.proofs.laws.fill_is_unique.Goals as goal

pub returns : goal.returns
returns c = OneFill.fill_is_unique
