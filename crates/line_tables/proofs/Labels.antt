-- The names of a block, a signal and a route in a table, and of a route as it is kept.
use Rattle.std.proofs.Common.{ℕ, List}
use Rattle.rail_model.specs.declared.items.Block.{Block}
use Rattle.rail_model.specs.declared.items.Signal.{Signal}
use Rattle.rail_model.specs.declared.items.Route.{Route}
use Rattle.line_tables.specs.declared.kept_route.KeptRoute.{KeptRoute}
use Rattle.line_tables.specs.declared.linked.Linked.{Linked}

abbrev pub block_name : Block → List ℕ
block_name b = b.name

abbrev pub signal_name : Linked Signal → List ℕ
signal_name e = e.item.name

abbrev pub route_name : Linked Route → List ℕ
route_name e = e.item.name

abbrev pub kept_name : Linked KeptRoute → List ℕ
kept_name e = e.item.name
