use Rattle.std.proofs.Common.{rules}
use Rattle.line_tables.proofs.route_sets.RouteSets.move_routes.Goals as goal

pub returns-clause-moved : goal.returns-clause-moved
returns-clause-moved c = search rules
