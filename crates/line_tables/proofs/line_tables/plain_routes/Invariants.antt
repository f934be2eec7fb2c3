use Rattle.std.proofs.Common.{◌≡◌, take, map}
use Rattle.line_tables.specs.KeptRoutes.{route_of}
use Rattle.line_tables.proofs.line_tables.plain_routes.Given as goal

abbrev pub invariant-loop-number : goal.invariant-loop-number
invariant-loop-number l = l.items ≡ map (λ e. route_of l.signals e.1) (take l.number l.table)
