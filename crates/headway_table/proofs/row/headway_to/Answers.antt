use Rattle.std.proofs.Common.{rules}
use Rattle.headway_table.proofs.row.headway_to.Goals as goal

pub returns-then-own : goal.returns-then-own
returns-then-own c = search rules

pub returns : goal.returns
returns c = search rules
