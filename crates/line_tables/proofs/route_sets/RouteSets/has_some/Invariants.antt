use Rattle.std.proofs.Common.{◌≡◌, take, false}
use Rattle.std.specs.List.{list_any}
use Rattle.line_tables.specs.RouteSets.{has}
use Rattle.line_tables.proofs.route_sets.RouteSets.has_some.Given as goal

-- the route is in none of the sets so far
abbrev pub invariant-loop-block : goal.invariant-loop-block
invariant-loop-block l = list_any (λ b. has l.self.of_blocks b l.route) (take l.block-index l.blocks) ≡ false
