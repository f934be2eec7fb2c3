use Rattle.std.proofs.Common.{rules}
use Rattle.train_net.proofs.entering.with_edge.Goals as goal

pub returns : goal.returns
returns c = search rules
