-- What a line's tables are once routes have the names of their signals.
use Rattle.std.proofs.Common.{◌≡◌, ◌==◌, ℕ, false, List, map, length, get_or, Option, Some, None, sym, ap, ◌∙◌, subst}
use Rattle.std.specs.Prelude.{All, IsSome, option_map}
use Rattle.std.proofs.lemmas.Bool.{both_ways, eq-eqb}
use Rattle.std.proofs.lemmas.List.{length-map}
use Rattle.rail_model.specs.declared.items.Signal.{Signal}
use Rattle.rail_model.specs.declared.items.Route.{Route}
use Rattle.rail_model.specs.declared.edit.Kind.TheVariants as kind
use Rattle.rail_model.specs.Tables.{no_route, route_named}
use Rattle.rail_model.specs.Rules.{is_named, has_route, rule_of_drop, with_item, without}
use Rattle.rail_model.proofs.Lists.{map_same}
use Rattle.line_tables.specs.declared.kept_route.KeptRoute.{KeptRoute}
use Rattle.line_tables.specs.declared.linked.Linked.{Linked}
use Rattle.line_tables.specs.declared.line_tables.LineTables.TheInside.{Inside}
use Rattle.line_tables.specs.declared.route_sets.RouteSets.{RouteSets}
use Rattle.line_tables.specs.Table.{under, with_change, named, name_at, key_of, IsTable}
use Rattle.line_tables.specs.Links.{IsKey, references}
use Rattle.line_tables.specs.KeptRoutes.{with_names, all_with_names}
use Rattle.line_tables.specs.Inside.{whole_tables, tables_of, IsJoined}
use Rattle.line_tables.proofs.Filed.{stored_at, some_from_map}
use Rattle.line_tables.proofs.Entries.{is_some-key_of}
use Rattle.line_tables.proofs.References.{entry}
use Rattle.line_tables.proofs.Meets.{all_keys}
use Rattle.line_tables.proofs.Moves.{unreferred}
use Rattle.line_tables.proofs.Under.{swapped_by_put, swapped_by_change, swapped_by_drop}
use Rattle.line_tables.proofs.KeptRoutes.{All-unmap, under_with_names, key_with_names, named_with_names, table_with_names, references_with_names, kept_as, put_with_names, change_with_names, same_with_names}
use Rattle.line_tables.proofs.Views.{is_named-map, item_named}
use Rattle.line_tables.proofs.JoinedSignals.{signal_is_there, signal_unused}
use Rattle.line_tables.proofs.Labels.{signal_name, route_name, kept_name}

-- a kept route under the keys of its signals
abbrev pub kept : Route → List ℕ → Linked KeptRoute
kept x refs = record { item = record { name = x.name }; refs = refs }

module _ (t : Inside) where
  -- what routes refer to are signals
  pub routes_listed : IsJoined (whole_tables t) → IsTable signal_name t.signals → All (λ u. All (IsKey t.signals) u.1.refs) t.routes
  routes_listed j table =
      All-unmap (λ u. All (IsKey t.signals) u.1.refs) (λ (u : ℕ × Linked KeptRoute). (u.0, with_names t.signals u.1)) t.routes
      (λ i d l. let u = get_or (whole_tables t).routes i d in all_keys signal_name t.signals table u.1.item.signals u.1.refs (j.routes i d l))

  -- ---- what is found in the table of routes

  pub kept_table : IsTable kept_name t.routes → IsTable route_name (whole_tables t).routes
  kept_table table = table_with_names t.signals t.routes table

  pub kept_key : (n : List ℕ) → key_of route_name (whole_tables t).routes n ≡ key_of kept_name t.routes n
  kept_key n = key_with_names t.signals t.routes n

  pub kept_keys : (ns : List (List ℕ)) → map (key_of route_name (whole_tables t).routes) ns ≡ map (key_of kept_name t.routes) ns
  kept_keys ns = map_same (key_of route_name (whole_tables t).routes) (key_of kept_name t.routes) ns (λ i d l. kept_key (get_or ns i d))

  pub kept_under : (k : ℕ) (e : Linked KeptRoute) → under t.routes k ≡ Some e → under (whole_tables t).routes k ≡ Some (with_names t.signals e)
  kept_under k e here = under_with_names t.signals t.routes k ∙ ap (option_map (with_names t.signals)) here

  pub none_kept : (k : ℕ) → under t.routes k ≡ None → under (whole_tables t).routes k ≡ None
  none_kept k vacant = under_with_names t.signals t.routes k ∙ ap (option_map (with_names t.signals)) vacant

  pub kept_named : (n : List ℕ) → is_named (named route_name) (whole_tables t).routes n ≡ is_named (named kept_name) t.routes n
  kept_named n = named_with_names t.signals t.routes n

  pub has_kept : (n : List ℕ) → has_route (tables_of (whole_tables t)) n ≡ is_named (named kept_name) t.routes n
  has_kept n = is_named-map (λ (e : ℕ × Linked Route). e.1.item) (λ x. x.name) (whole_tables t).routes n ∙ kept_named n

  pub kept_references : (k : ℕ) → references (whole_tables t).routes k ≡ references t.routes k
  kept_references k = references_with_names t.signals t.routes k

  -- what holds of the route that is kept under a key, or of a name, holds of it with its signals' names
  pub of_kept : (o : Option (Linked Route)) (was : Option (Linked KeptRoute)) → o ≡ option_map (with_names t.signals) was → (P : Linked Route → Type 0) → ((e : Linked KeptRoute) → was ≡ Some e → P (with_names t.signals e)) → (e : Linked Route) → o ≡ Some e → P e
  of_kept o was same P all e here =
      let old = some_from_map (with_names t.signals) was e (sym same ∙ here) in
      subst P old.2 (all old.0 old.1)

  -- a route has as many signals as keys
  pub signals_counted : (n : List ℕ) (k : ℕ) (e : Linked KeptRoute) → IsTable kept_name t.routes → key_of kept_name t.routes n ≡ Some k → under t.routes k ≡ Some e → length e.refs ≡ length (route_named (tables_of (whole_tables t)) n).signals
  signals_counted n k e table key here =
      sym
      (ap (λ (r : Route). length r.signals) (item_named (λ (e : Linked Route). e.item) (λ x. x.name) (whole_tables t).routes n k (with_names t.signals e) no_route (kept_table table) (kept_key n ∙ key) (kept_under k e here))
      ∙ length-map e.refs (name_at signal_name (under t.signals)))

  -- ---- a route that is put in

  pub with_names_is : (x : Route) (refs : List ℕ) → IsTable signal_name t.signals → map (key_of signal_name t.signals) x.signals ≡ map Some refs → with_names t.signals (kept x refs) ≡ entry x refs
  with_names_is x refs table found =
      ap (λ names. entry (record { name = x.name; signals = names }) refs) (kept_as t.signals x.signals refs table found)

  -- ---- the routes after an edit of one

  module _ (x : Route) (refs : List ℕ) (table : IsTable signal_name t.signals) (found : map (key_of signal_name t.signals) x.signals ≡ map Some refs) (key : ℕ) where
    pub route_put_in : all_with_names t.signals (with_item (named kept_name) t.routes (key, kept x refs)) ≡ with_item (named route_name) (whole_tables t).routes (key, entry x refs)
    route_put_in =
        put_with_names t.signals t.routes key (kept x refs)
        ∙ ap (λ e. with_item (named route_name) (whole_tables t).routes (key, e)) (with_names_is x refs table found)

    pub route_changed_in : all_with_names t.signals (with_change t.routes key (kept x refs)) ≡ with_change (whole_tables t).routes key (entry x refs)
    route_changed_in =
        change_with_names t.signals t.routes key (kept x refs)
        ∙ ap (with_change (whole_tables t).routes key) (with_names_is x refs table found)

  -- ---- the routes after an edit of a signal

  module _ (j : IsJoined (whole_tables t)) (table : IsTable signal_name t.signals) where
    -- no route refers to a key at which no signal stood
    pub names_after_put : (key : ℕ) (e : Linked Signal) → is_named (named signal_name) t.signals e.item.name ≡ false → under t.signals key ≡ None → all_with_names (with_item (named signal_name) t.signals (key, e)) t.routes ≡ (whole_tables t).routes
    names_after_put key e new vacant =
        same_with_names t.signals (with_item (named signal_name) t.signals (key, e)) key (Some e) t.routes
        (swapped_by_put signal_name t.signals key e table new vacant)
        (λ i d l n c m is.
        let here = routes_listed j table i d l n c m in
        absurd (let no : IsSome {T = Linked Signal} None = subst IsSome (ap (under t.signals) is ∙ vacant) here in cc))

    pub names_after_change : (key : ℕ) (e : Linked Signal) → option_map signal_name (under t.signals key) ≡ Some e.item.name → all_with_names (with_change t.signals key e) t.routes ≡ (whole_tables t).routes
    names_after_change key e same =
        let old = some_from_map signal_name (under t.signals key) e.item.name same in
        same_with_names t.signals (with_change t.signals key e) key (Some e) t.routes
        (swapped_by_change t.signals key old.0 e old.1) (λ i d l n c m is. sym same)

    pub names_after_drop : (name : List ℕ) (key : ℕ) → key_of signal_name t.signals name ≡ Some key → references (whole_tables t).routes key ≡ 0 → all_with_names (without (named signal_name) t.signals name) t.routes ≡ (whole_tables t).routes
    names_after_drop name key here none =
        same_with_names t.signals (without (named signal_name) t.signals name) key None t.routes
        (swapped_by_drop signal_name t.signals name key table here)
        (λ i d l n c m is.
        let all = All-unmap (λ u. All (λ q. (q == key) ≡ false) u.1.refs) (λ (u : ℕ × Linked KeptRoute). (u.0, with_names t.signals u.1)) t.routes (unreferred key (whole_tables t).routes none) in
        absurd (both_ways (get_or (get_or t.routes i d).1.refs n c == key) (all i d l n c m) (eq-eqb _ key is)))

  -- no route refers to a signal that may be dropped
  pub names_after_drop_of : (name : List ℕ) → IsJoined (whole_tables t) → IsTable signal_name t.signals → rule_of_drop (tables_of (whole_tables t)) kind.Signal name ≡ None → all_with_names (without (named signal_name) t.signals name) t.routes ≡ (whole_tables t).routes
  names_after_drop_of name j table none =
      let key = stored_at (key_of signal_name t.signals name) (is_some-key_of signal_name t.signals name ∙ signal_is_there (whole_tables t) name none) in
      names_after_drop j table name key.0 key.1 (signal_unused (whole_tables t) name key.0 j table none key.1)

  -- ---- the tables with these routes

  pub joined_with_routes : (routes : List (ℕ × Linked KeptRoute)) (named : List (ℕ × Linked Route)) (uses : List ℕ) (sets : RouteSets) → all_with_names t.signals routes ≡ named → IsJoined (record (whole_tables t) { routes = named; signal_uses = uses; route_sets = sets }) → IsJoined (whole_tables (record t { routes = routes; signal_uses = uses; route_sets = sets }))
  joined_with_routes routes named uses sets are j =
      subst (λ (l : List (ℕ × Linked Route)). IsJoined (record (whole_tables t) { routes = l; signal_uses = uses; route_sets = sets })) (sym are) j

  pub joined_with_signals : (signals : List (ℕ × Linked Signal)) (uses : List ℕ) (sets : RouteSets) → all_with_names signals t.routes ≡ (whole_tables t).routes → IsJoined (record (whole_tables t) { signals = signals; block_uses = uses; route_sets = sets }) → IsJoined (whole_tables (record t { signals = signals; block_uses = uses; route_sets = sets }))
  joined_with_signals signals uses sets stay j =
      subst (λ (l : List (ℕ × Linked Route)). IsJoined (record (whole_tables t) { signals = signals; routes = l; block_uses = uses; route_sets = sets })) (sym stay) j
