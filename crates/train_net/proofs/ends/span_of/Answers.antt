use Rattle.std.proofs.Common.{rules}
use Rattle.train_net.proofs.ends.span_of.Goals as goal

pub returns-in-Some-last : goal.returns-in-Some-last
returns-in-Some-last c = search rules

pub returns-in-None-last : goal.returns-in-None-last
returns-in-None-last c = search rules

pub returns-in-None : goal.returns-in-None
returns-in-None c = search rules
