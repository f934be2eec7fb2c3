use Rattle.train_net.proofs.Spanned as Spanned
use Rattle.train_net.proofs.laws.along_are_spans.Goals as goal

pub returns : goal.returns
returns c = Spanned.along_are_spans
