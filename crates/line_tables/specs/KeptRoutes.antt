-- Routes as their table keeps them: a name, and the keys of signals, whose names follow from the keys.
use Rattle.std.specs.Prelude.{ℕ, List, map}
use Rattle.rail_model.specs.declared.items.Signal.{Signal}
use Rattle.rail_model.specs.declared.items.Route.{Route}
use Rattle.line_tables.specs.declared.kept_route.KeptRoute.{KeptRoute}
use Rattle.line_tables.specs.declared.linked.Linked.{Linked}
use Rattle.line_tables.specs.Table.{under, name_at}

-- the names of the signals under keys
abbrev pub names_under : List (ℕ × Linked Signal) → List ℕ → List (List ℕ)
names_under signals keys = map (name_at (λ e. e.item.name) (under signals)) keys

-- a route with the names of its signals
abbrev pub route_of : List (ℕ × Linked Signal) → Linked KeptRoute → Route
route_of signals e = record { name = e.item.name; signals = names_under signals e.refs }

-- the same beside its keys
abbrev pub with_names : List (ℕ × Linked Signal) → Linked KeptRoute → Linked Route
with_names signals e = record { item = route_of signals e; refs = e.refs }

-- each route of a table with the names of its signals
abbrev pub all_with_names : List (ℕ × Linked Signal) → List (ℕ × Linked KeptRoute) → List (ℕ × Linked Route)
all_with_names signals routes = map (λ u. (u.0, with_names signals u.1)) routes
