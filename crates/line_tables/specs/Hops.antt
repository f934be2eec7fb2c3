-- The hops of routes and of runs.
use Rattle.std.specs.Prelude.{ℕ, ◌<◌, List, [], map, length, All, slice_index, slice_index_or}
use Rattle.std.specs.List.{zip}
use Rattle.rail_model.specs.declared.items.Leg.{Leg}
use Rattle.rail_model.specs.declared.items.Run.{Run}
use Rattle.rail_model.specs.declared.items.Block.{Block}
use Rattle.rail_model.specs.declared.items.Signal.{Signal}
use Rattle.rail_model.specs.declared.path.Hop.{Hop}
use Rattle.rail_model.specs.declared.path.Path.{Path}
use Rattle.std.specs.Option.{option_map_or}
use Rattle.rail_model.specs.Blocking.{no_hop, Fits}
use Rattle.rail_model.specs.Tables.{no_signal, hop_beyond}
use Rattle.rail_model.specs.Rules.{no_tables}
use Rattle.line_tables.specs.declared.linked.Linked.{Linked}
use Rattle.line_tables.specs.Table.{under}
use Rattle.line_tables.specs.Links.{IsKey}
use Rattle.rail_model.specs.Within.{no_leg}

-- a hop with the times of a leg
abbrev pub with_leg : Hop → Leg → Hop
with_leg h leg = record h { running_s = leg.running_s; dwell_s = leg.dwell_s }

-- hops with the times of these legs, one for each hop
abbrev pub with_legs : List Hop → List Leg → List Hop
with_legs hops legs = map (λ p. with_leg p.0 p.1) (zip hops legs)

-- the signal under a key
abbrev pub signal_under : List (ℕ × Linked Signal) → ℕ → Signal
signal_under signals k = option_map_or (λ e. e.item) (under signals k) no_signal

-- the hop beyond the signal under a key, before any run has timed it
abbrev pub hop_of : List (ℕ × Block) → List (ℕ × Linked Signal) → ℕ → Hop
hop_of blocks signals k =
    hop_beyond (record no_tables { blocks = map (λ e. e.1) blocks }) (signal_under signals k) no_leg

-- the path of a run with these hops
abbrev pub path_with : Run → List Hop → Path
path_with run hops = record {
  run = run.name;
  length_m = run.length_m;
  tail_s = run.tail_s;
  start_s = run.start_s;
  hops = hops;
}

-- the path of a run over the hops of its route
abbrev pub path_over : Run → List Hop → Path
path_over run hops = path_with run (with_legs hops run.legs)

-- ---- paths by a list of hops, which has the hop beyond each signal at its key

-- the hops at these keys, in their order
abbrev pub hops_at : List Hop → List ℕ → List Hop
hops_at hops keys = map (λ k. slice_index_or hops k no_hop) keys

-- the keys of the signals of the route that a run refers to
abbrev pub keys_along : {A : Type 0} → List (ℕ × Linked A) → Linked Run → List ℕ
keys_along routes run = option_map_or (λ r. r.refs) (under routes (slice_index run.refs 0)) []

-- the path of a run
abbrev pub path_by_keys : {A : Type 0} → List (ℕ × Linked A) → List Hop → Linked Run → Path
path_by_keys routes hops run = path_over run.item (hops_at hops (keys_along routes run))

-- the path of each run, in their order
abbrev pub paths_by_keys : {A : Type 0} → List (ℕ × Linked Run) → List (ℕ × Linked A) → List Hop → List Path
paths_by_keys runs routes hops = map (λ u. path_by_keys routes hops u.1) runs

-- each run refers to a route, there is a hop at each key of a route's signals, and the paths fit
pub record ArePaths {A : Type 0} (runs : List (ℕ × Linked Run)) (routes : List (ℕ × Linked A)) (hops : List Hop) : Type 0 where
  pub refers : All (λ u. 0 < length u.1.refs) runs
  pub there : All (λ u. IsKey routes (slice_index u.1.refs 0)) runs
  pub within : All (λ u. All (λ k. k < length hops) u.1.refs) routes
  pub fits : All Fits (paths_by_keys runs routes hops)
