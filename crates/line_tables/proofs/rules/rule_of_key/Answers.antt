use Rattle.std.proofs.Common.{rules}
use Rattle.line_tables.proofs.rules.rule_of_key.Goals as goal

pub returns : goal.returns
returns c = search rules
