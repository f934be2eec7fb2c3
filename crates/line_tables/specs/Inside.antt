-- How the tables of a line fit together.
use Rattle.std.specs.Prelude.{◌≡◌, ℕ, ◌+◌, List, [], ◌∷◌, map}
use Rattle.std.specs.declared.alloc.Global.{Global}
use Rattle.rail_model.specs.declared.items.Block.{Block}
use Rattle.rail_model.specs.declared.items.Signal.{Signal}
use Rattle.rail_model.specs.declared.items.Route.{Route}
use Rattle.rail_model.specs.declared.items.Run.{Run}
use Rattle.rail_model.specs.declared.items.Section.{Section}
use Rattle.rail_model.specs.declared.items.Connection.{Connection}
use Rattle.rail_model.specs.declared.tables.Tables.{Tables}
use Rattle.rail_model.specs.Rules.{IsSound}
use Rattle.line_tables.specs.declared.kept_route.KeptRoute.{KeptRoute}
use Rattle.line_tables.specs.declared.linked.Linked.{Linked}
use Rattle.line_tables.specs.declared.line_tables.LineTables.TheInside.{Inside}
use Rattle.line_tables.specs.KeyCounts.{count_of}
use Rattle.line_tables.specs.Links.{IsLinked, references, block_of}
use Rattle.line_tables.specs.KeptRoutes.{all_with_names}
use Rattle.line_tables.specs.RouteSets.{AreSetsOf}
use Rattle.line_tables.specs.declared.route_sets.RouteSets.{RouteSets}

-- the items alone
abbrev pub items_of : {A : Type 0} → List (ℕ × Linked A) → List A
items_of entries = map (λ e. e.1.item) entries

-- the tables of a line with their keys, each route with the names of its signals
pub record WholeTables : Type 0 where
  pub blocks : List (ℕ × Block)
  pub signals : List (ℕ × Linked Signal)
  pub routes : List (ℕ × Linked Route)
  pub runs : List (ℕ × Linked Run)
  pub sections : List (ℕ × Linked Section)
  pub connections : List (ℕ × Linked Connection)
  pub block_uses : List ℕ
  pub signal_uses : List ℕ
  pub route_uses : List ℕ
  pub run_uses : List ℕ
  pub route_sets : RouteSets

-- the same tables, with the names that follow from the keys
abbrev pub whole_tables : Inside → WholeTables
whole_tables t = record {
  blocks = t.blocks;
  signals = t.signals;
  routes = all_with_names t.signals t.routes;
  runs = t.runs;
  sections = t.sections;
  connections = t.connections;
  block_uses = t.block_uses;
  signal_uses = t.signal_uses;
  route_uses = t.route_uses;
  run_uses = t.run_uses;
  route_sets = t.route_sets;
}

-- what contracts see of the tables
abbrev pub tables_of : WholeTables → Tables
tables_of t = record {
  blocks = map (λ e. e.1) t.blocks;
  signals = items_of t.signals;
  routes = items_of t.routes;
  runs = items_of t.runs;
  sections = items_of t.sections;
  connections = items_of t.connections;
}

-- the names of what an item refers to
abbrev pub names_of_signal : Signal → List (List ℕ)
names_of_signal s = s.block ∷ []

abbrev pub names_of_route : Route → List (List ℕ)
names_of_route r = r.signals

abbrev pub names_of_run : Run → List (List ℕ)
names_of_run r = r.route ∷ []

abbrev pub names_of_section : Section → List (List ℕ)
names_of_section s = s.blocks

abbrev pub names_of_connection : Connection → List (List ℕ)
names_of_connection c = c.first ∷ c.second ∷ []

-- the tables are sound, each reference is the key of what the item names, each item is counted as often as others
-- refer to it, and the set at each signal has the keys of the routes that list it, that at each block the keys of the
-- routes that have a signal of it
pub record IsJoined (t : WholeTables) : Type 0 where
  pub sound : IsSound (tables_of t)
  pub signals : IsLinked names_of_signal (λ b. b.name) t.signals t.blocks
  pub routes : IsLinked names_of_route (λ e. e.item.name) t.routes t.signals
  pub runs : IsLinked names_of_run (λ e. e.item.name) t.runs t.routes
  pub sections : IsLinked names_of_section (λ b. b.name) t.sections t.blocks
  pub connections : IsLinked names_of_connection (λ e. e.item.name) t.connections t.runs
  pub block_uses : (k : ℕ) → count_of t.block_uses k ≡ references t.signals k + references t.sections k
  pub signal_uses : (k : ℕ) → count_of t.signal_uses k ≡ references t.routes k
  pub route_uses : (k : ℕ) → count_of t.route_uses k ≡ references t.runs k
  pub run_uses : (k : ℕ) → count_of t.run_uses k ≡ references t.connections k
  pub signal_routes : AreSetsOf (λ q. q) t.routes t.route_sets.of_signals
  pub block_routes : AreSetsOf (block_of t.signals) t.routes t.route_sets.of_blocks

-- the tables of a line's track and of its trains, and how often each block, signal, route and run is referred to
abbrev pub TrackTables : Type 0
TrackTables = List (ℕ × Block) × List (ℕ × Linked Signal) × List (ℕ × Linked KeptRoute)

abbrev pub TrainTables : Type 0
TrainTables = List (ℕ × Linked Run) × List (ℕ × Linked Section) × List (ℕ × Linked Connection)

abbrev pub ReferenceCounts : Type 0
ReferenceCounts = List ℕ × List ℕ × List ℕ × List ℕ

-- the inside of these tables and counts
abbrev pub parts : Global → TrackTables → TrainTables → ReferenceCounts → RouteSets → Inside
parts alloc track trains counts sets = record {
  alloc = alloc;
  blocks = track.0;
  signals = track.1;
  routes = track.2;
  runs = trains.0;
  sections = trains.1;
  connections = trains.2;
  block_uses = counts.0;
  signal_uses = counts.1;
  route_uses = counts.2;
  run_uses = counts.3;
  route_sets = sets;
}
