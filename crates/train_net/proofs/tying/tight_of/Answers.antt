use Rattle.std.proofs.Common.{rules}
use Rattle.train_net.proofs.tying.tight_of.Goals as goal

pub returns-then-entry-by_edge : goal.returns-then-entry-by_edge
returns-then-entry-by_edge c = search rules

pub returns-else-entry-by_edge : goal.returns-else-entry-by_edge
returns-else-entry-by_edge c = search rules
