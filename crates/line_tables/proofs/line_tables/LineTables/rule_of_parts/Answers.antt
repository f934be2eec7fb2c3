use Rattle.std.proofs.Common.{subst}
use Rattle.line_tables.specs.References.{IsNoRoute}
use Rattle.line_tables.proofs.line_tables.LineTables.rule_of_parts.Goals as goal

pub unreachable-requires : goal.unreachable-requires
unreachable-requires c = subst IsNoRoute c.in-Route.is c.requires
