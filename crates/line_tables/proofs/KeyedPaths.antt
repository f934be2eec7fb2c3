-- The paths of a line's runs by a list of hops, which has the hop beyond each signal at its key.
use Rattle.std.proofs.Common.{◌≡◌, ℕ, ◌<◌, List, [], ◌∷◌, map, length, get_or, Some, refl, sym, ap, ◌∙◌, subst, arith}
use Rattle.std.specs.Prelude.{All, option_map, slice_get}
use Rattle.std.proofs.lemmas.List.{get_or-map}
use Rattle.std.proofs.lemmas.Option.{get_or_from_slice_get, slice_get_within}
use Rattle.std.proofs.lemmas.List.Elements.{All-map, All-cons}
use Rattle.std.proofs.lemmas.Simd.{map-map}
use Rattle.rail_model.specs.declared.items.Block.{Block}
use Rattle.rail_model.specs.declared.items.Route.{Route}
use Rattle.rail_model.specs.declared.items.Run.{Run}
use Rattle.rail_model.specs.declared.items.Signal.{Signal}
use Rattle.rail_model.specs.declared.path.Hop.{Hop}
use Rattle.rail_model.specs.declared.path.Path.{Path}
use Rattle.rail_model.specs.Blocking.{no_hop, Fits}
use Rattle.rail_model.specs.Tables.{no_signal, no_route, route_named, path_in}
use Rattle.rail_model.proofs.Lists.{map_same}
use Rattle.rail_model.proofs.Paths.{path_fits}
use Rattle.line_tables.specs.declared.linked.Linked.{Linked}
use Rattle.line_tables.specs.Table.{key_of, under, IsTable, AreAtKeys}
use Rattle.line_tables.specs.Inside.{WholeTables, tables_of, IsJoined}
use Rattle.line_tables.specs.Hops.{hop_of, hops_at, with_legs, path_with, path_by_keys, paths_by_keys, ArePaths}
use Rattle.line_tables.specs.Paths.{paths_of}
use Rattle.line_tables.proofs.Found.{found_by_key}
use Rattle.line_tables.proofs.Views.{item_named}
use Rattle.line_tables.proofs.Meets.{only_key, some_key, under_passes}
use Rattle.line_tables.proofs.Numbers.{at_key}
use Rattle.line_tables.proofs.TimedHops.{untimed_hop, route_hops}
use Rattle.line_tables.proofs.RunPaths.{same_images, read_entry, path_is, numbered, linked_under}
use Rattle.line_tables.proofs.Labels.{signal_name, route_name}

-- each hop stands at its signal's key
abbrev pub AreHops : List (ℕ × Block) → List (ℕ × Linked Signal) → List Hop → Type 0
AreHops blocks signals hops = AreAtKeys (λ i k. hop_of blocks signals k) (length signals) signals hops

-- there is a hop at the key of each of these names
pub keys_within : (signals : List (ℕ × Linked Signal)) (f : ℕ → ℕ → Hop) (hops : List Hop) → AreAtKeys f (length signals) signals hops → (ns : List (List ℕ)) (ks : List ℕ) → map (key_of signal_name signals) ns ≡ map Some ks → All (λ k. k < length hops) ks
keys_within signals f hops right [] [] e = λ i d below. absurd (omega (arith, below))
keys_within signals f hops right [] (k ∷ ks) e = absurd (cc)
keys_within signals f hops right (n ∷ ns) [] e = absurd (cc)
keys_within signals f hops right (n ∷ ns) (k ∷ ks) e =
    let first : key_of signal_name signals n ≡ Some k = cc in
    let rest : map (key_of signal_name signals) ns ≡ map Some ks = cc in
    let at = at_key signal_name signals f hops n k right first in
    All-cons (λ k. k < length hops) k ks (slice_get_within hops k _ at.0) (keys_within signals f hops right ns ks rest)

module _ (t : WholeTables) (j : IsJoined t) (signals : IsTable signal_name t.signals) (routes : IsTable route_name t.routes) (hops : List Hop) (right : AreHops t.blocks t.signals hops) where
  -- the hops at the keys of a route's signals
  hops_along : (r : Linked Route) → map (key_of signal_name t.signals) r.item.signals ≡ map Some r.refs → hops_at hops r.refs ≡ route_hops (tables_of t) r.item
  hops_along r linked =
      sym (same_images (key_of signal_name t.signals) (untimed_hop (tables_of t)) (λ k. get_or hops k no_hop) r.item.signals r.refs
      (λ n q e.
      let found = found_by_key signal_name t.signals n q signals e in
      let named = item_named (λ (e : Linked Signal). e.item) (λ x. x.name) t.signals n q found.0 no_signal signals e found.1.under in
      let at = at_key signal_name t.signals (λ i k. hop_of t.blocks t.signals k) hops n q right e in
      let read : get_or hops q no_hop ≡ hop_of t.blocks t.signals q = get_or_from_slice_get hops q (hop_of t.blocks t.signals q) no_hop at.0 in
      rw (read, named, found.1.under) refl)
      linked)

  -- the path of a run that refers to its route alone
  path_of : (e : Linked Run) → key_of route_name t.routes e.item.route ∷ [] ≡ map Some e.refs → path_by_keys t.routes hops e ≡ path_in (tables_of t) e.item
  path_of e linked =
      let tables = tables_of t in
      let key = only_key (key_of route_name t.routes e.item.route) e.refs linked in
      let found = found_by_key route_name t.routes e.item.route (get_or e.refs 0 0) routes key in
      let r = found.0 in
      let named = item_named (λ (e : Linked Route). e.item) (λ x. x.name) t.routes e.item.route (get_or e.refs 0 0) r no_route routes key found.1.under in
      let hops_are : hops_at hops r.refs ≡ route_hops tables (route_named tables e.item.route) =
      hops_along r (linked_under t j (get_or e.refs 0 0) r found.1.under) ∙ ap (route_hops tables) (sym named) in
      rw found.1.under (path_is tables e.item (hops_at hops r.refs) hops_are)

  pub paths_are : paths_by_keys t.runs t.routes hops ≡ paths_of (tables_of t)
  paths_are =
      map_same (λ u. path_by_keys t.routes hops u.1) (λ (u : ℕ × Linked Run). path_in (tables_of t) u.1.item) t.runs (λ i d l. path_of (get_or t.runs i d).1 (j.runs i d l))
      ∙ sym (map-map (path_in (tables_of t)) (λ (u : ℕ × Linked Run). u.1.item) t.runs)

  pub are_paths : ArePaths t.runs t.routes hops
  are_paths =
      let tables = tables_of t in
      record {
        refers = λ i d l. some_key _ (get_or t.runs i d).1.refs (j.runs i d l);
        there = λ i d l.
            let e = (get_or t.runs i d).1 in
            let key = only_key (key_of route_name t.routes e.item.route) e.refs (j.runs i d l) in
            let found = found_by_key route_name t.routes e.item.route (get_or e.refs 0 0) routes key in
            rw found.1.under refl;
        within = λ i d l. keys_within t.signals (λ i k. hop_of t.blocks t.signals k) hops right (get_or t.routes i d).1.item.signals (get_or t.routes i d).1.refs (j.routes i d l);
        fits =
            subst (All Fits) (sym paths_are)
            (All-map Fits (path_in tables) tables.runs (λ i d l. path_fits tables j.sound (get_or tables.runs i d) (j.sound.runs.each i d l)));
      }

  pub all_numbered : All (λ (p : Path). All (λ (h : Hop). h.block < length (tables_of t).blocks) p.hops) (paths_by_keys t.runs t.routes hops)
  all_numbered =
      let tables = tables_of t in
      let AreThere : Path → Type 0 = λ p. All (λ (h : Hop). h.block < length tables.blocks) p.hops in
      let all = All-map AreThere (path_in tables) tables.runs (λ i d l. numbered tables j.sound (get_or tables.runs i d) (j.sound.runs.each i d l)) in
      subst (All AreThere) (sym paths_are) all

-- there is a hop at each key of the signals of the route under a key
pub keys_there : {A : Type 0} (routes : List (ℕ × Linked A)) (hops : List Hop) (k : ℕ) (r : Linked A) → under routes k ≡ Some r → All (λ u. All (λ k. k < length hops) u.1.refs) routes → All (λ k. k < length hops) r.refs
keys_there routes hops k r here all =
    let one = under_passes (λ (u : ℕ × Linked _). All (λ k. k < length hops) u.1.refs) routes k r here all in
    subst (λ (r : Linked _). All (λ k. k < length hops) r.refs) one.1 one.2

-- the path of the run of a number
pub path_read : {A : Type 0} (runs : List (ℕ × Linked Run)) (routes : List (ℕ × Linked A)) (hops : List Hop) (n : ℕ) (e : Linked Run) (r : Linked A) (d : Path) → option_map (λ e. e.1) (slice_get runs n) ≡ Some e → under routes (get_or e.refs 0 0) ≡ Some r → get_or (paths_by_keys runs routes hops) n d ≡ path_with e.item (with_legs (hops_at hops r.refs) e.item.legs)
path_read runs routes hops n e r d here on =
    let u = read_entry runs n e here in
    let reads : path_by_keys routes hops e ≡ path_with e.item (with_legs (hops_at hops r.refs) e.item.legs) = rw on refl in
    get_or-map (λ (u : ℕ × Linked Run). path_by_keys routes hops u.1) runs n u.0 d u.3 ∙ ap (λ (u : ℕ × Linked Run). path_by_keys routes hops u.1) u.1
    ∙ ap (path_by_keys routes hops) u.2 ∙ reads
