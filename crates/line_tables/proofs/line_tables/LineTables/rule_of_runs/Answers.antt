use Rattle.std.proofs.Common.{rules}
use Rattle.line_tables.proofs.line_tables.LineTables.rule_of_runs.Goals as goal

pub returns : goal.returns
returns c = search rules
