use Rattle.std.proofs.Common.{rules}
use Rattle.critical_chain.proofs.keeping.may_follow.Goals as goal

pub returns-then-until-from : goal.returns-then-until-from
returns-then-until-from c = search rules

pub returns-then-until-from-2 : goal.returns-then-until-from-2
returns-then-until-from-2 c = search rules

pub returns-else-until-from-2 : goal.returns-else-until-from-2
returns-else-until-from-2 c = search rules
