-- How the tables of a line still fit together after an edit of a route that no rule refuses.
use Rattle.std.proofs.Common.{◌≡◌, ℕ, ◌+◌, true, false, List, map, Some, None, sym, ◌∙◌, arith}
use Rattle.std.specs.Prelude.{option_map}
use Rattle.rail_model.specs.declared.items.Route.{Route}
use Rattle.rail_model.specs.declared.items.Item.TheVariants as item
use Rattle.rail_model.specs.declared.edit.Kind.TheVariants as kind
use Rattle.rail_model.specs.Name.{is_same}
use Rattle.rail_model.specs.Rules.{is_named, rule_of_put, rule_of_change, rule_of_drop, with_item, without, IsSound}
use Rattle.rail_model.proofs.Sound.{accepted, changeable, free, IsSound-after_put, IsSound-after_change, IsSound-after_drop}
use Rattle.line_tables.specs.declared.linked.Linked.{Linked}
use Rattle.line_tables.specs.Table.{under, with_change, key_of, item_of, IsTable}
use Rattle.line_tables.specs.KeyCounts.{count_of, times, SameCounts}
use Rattle.line_tables.specs.Links.{IsLinked, block_of}
use Rattle.line_tables.specs.RouteSets.{SameSets, IsPutAt, IsTakenAt, IsChangedAt, AreSetsOf}
use Rattle.line_tables.specs.declared.route_sets.RouteSets.{RouteSets}
use Rattle.line_tables.specs.Inside.{WholeTables, items_of, tables_of, names_of_route, names_of_run, IsJoined}
use Rattle.line_tables.proofs.References.{entry}
use Rattle.line_tables.proofs.Views.{is_named-map, map-with_item, map-with_change, map-without}
use Rattle.line_tables.proofs.Under.{swapped_by_put, swapped_by_change, swapped_by_drop}
use Rattle.line_tables.proofs.Reaches.{sets_by_add, sets_by_swap, sets_by_remove}
use Rattle.line_tables.proofs.Known.{CountsMore}
use Rattle.line_tables.proofs.Joined.{IsEdited, by_put, by_change, by_drop, to_put, to_change, to_drop, is_listed, unreferred}
use Rattle.line_tables.proofs.Labels.{signal_name, route_name}

module _ (t : WholeTables) where
  -- other routes, which refer to signals and to which runs refer
  routes_joined : (routes : List (ℕ × Linked Route)) (uses : List ℕ) (sets : RouteSets) → IsJoined t → IsSound (tables_of (record t { routes = routes })) → IsEdited names_of_route signal_name t.signals t.routes routes t.signal_uses uses → IsLinked names_of_run route_name t.runs routes → AreSetsOf (λ q. q) routes sets.of_signals → AreSetsOf (block_of t.signals) routes sets.of_blocks → IsJoined (record t { routes = routes; signal_uses = uses; route_sets = sets })
  routes_joined routes uses sets j sound e runs of_signals of_blocks = record {
    sound = sound;
    signals = j.signals;
    routes = e.links;
    runs = runs;
    sections = j.sections;
    connections = j.connections;
    block_uses = j.block_uses;
    signal_uses = λ k. omega (arith, j.signal_uses k, e.counts k);
    route_uses = j.route_uses;
    run_uses = j.run_uses;
    signal_routes = of_signals;
    block_routes = of_blocks;
  }

  -- no route changes, and counts and sets say what they said
  pub routes_stay : (uses : List ℕ) (sets : RouteSets) → IsJoined t → SameCounts t.signal_uses uses → SameSets t.route_sets.of_signals sets.of_signals → SameSets t.route_sets.of_blocks sets.of_blocks → IsJoined (record t { signal_uses = uses; route_sets = sets })
  routes_stay uses sets j counts listed led = record {
    sound = j.sound;
    signals = j.signals;
    routes = j.routes;
    runs = j.runs;
    sections = j.sections;
    connections = j.connections;
    block_uses = j.block_uses;
    signal_uses = λ k. counts k ∙ j.signal_uses k;
    route_uses = j.route_uses;
    run_uses = j.run_uses;
    signal_routes = λ x r. listed x r ∙ j.signal_routes x r;
    block_routes = λ x r. led x r ∙ j.block_routes x r;
  }

  named_route : (n : List ℕ) → is_named (λ (x : Route). x.name) (items_of t.routes) n ≡ is_named (λ e. e.1.item.name) t.routes n
  named_route n = is_named-map (λ (e : ℕ × Linked Route). e.1.item) (λ x. x.name) t.routes n

  pub route_is_new : (x : Route) → rule_of_put (tables_of t) (item.Route x) ≡ None → is_named (λ e. e.1.item.name) t.routes x.name ≡ false
  route_is_new x none = sym (named_route x.name) ∙ (accepted (tables_of t) (item.Route x) none).new

  pub route_put : (key : ℕ) (x : Route) (refs uses : List ℕ) → IsJoined t → IsTable route_name t.routes → rule_of_put (tables_of t) (item.Route x) ≡ None → map (key_of signal_name t.signals) (names_of_route x) ≡ map Some refs → CountsMore t.signal_uses uses refs → (sets : RouteSets) → under t.routes key ≡ None → IsPutAt (λ q. q) refs key t.route_sets.of_signals sets.of_signals → IsPutAt (block_of t.signals) refs key t.route_sets.of_blocks sets.of_blocks → IsJoined (record t { routes = with_item (λ e. e.1.item.name) t.routes (key, entry x refs); signal_uses = uses; route_sets = sets })
  route_put key x refs uses j table none found counted sets vacant listed led =
      let new = route_is_new x none in
      let later = with_item (λ e. e.1.item.name) t.routes (key, entry x refs) in
      let swapped = swapped_by_put route_name t.routes key (entry x refs) table new vacant in
      routes_joined later uses sets j
      (rw (map-with_item (λ (e : ℕ × Linked Route). e.1.item) (λ x. x.name) t.routes (key, entry x refs)) (IsSound-after_put (tables_of t) (item.Route x) j.sound none))
      (by_put names_of_route (λ x. x.name) signal_name t.routes t.signals j.routes table t.signal_uses uses key x refs new found counted)
      (to_put names_of_run (λ x. x.name) route_name t.runs t.routes j.runs table key (entry x refs) new)
      (sets_by_add (λ q. q) t.routes later key (entry x refs) t.route_sets.of_signals sets.of_signals j.signal_routes swapped vacant listed)
      (sets_by_add (block_of t.signals) t.routes later key (entry x refs) t.route_sets.of_blocks sets.of_blocks j.block_routes swapped vacant led)

  pub route_stays : (x : Route) → rule_of_change (tables_of t) (item.Route x) ≡ None → is_named (λ e. e.1.item.name) t.routes x.name ≡ true
  route_stays x none = sym (named_route x.name) ∙ (changeable (tables_of t) (item.Route x) none).there

  pub route_change : (key : ℕ) (x : Route) (refs uses : List ℕ) → IsJoined t → IsTable route_name t.routes → option_map route_name (under t.routes key) ≡ Some x.name → rule_of_change (tables_of t) (item.Route x) ≡ None → map (key_of signal_name t.signals) (names_of_route x) ≡ map Some refs → ((e : Linked Route) (k : ℕ) → under t.routes key ≡ Some e → count_of uses k + times k e.refs ≡ count_of t.signal_uses k + times k refs) → (before : Linked Route) (sets : RouteSets) → under t.routes key ≡ Some before → IsChangedAt (λ q. q) before.refs (λ q. q) refs key t.route_sets.of_signals sets.of_signals → IsChangedAt (block_of t.signals) before.refs (block_of t.signals) refs key t.route_sets.of_blocks sets.of_blocks → IsJoined (record t { routes = with_change t.routes key (entry x refs); signal_uses = uses; route_sets = sets })
  route_change key x refs uses j table same none found counted before sets here listed led =
      let later = with_change t.routes key (entry x refs) in
      let swapped = swapped_by_change t.routes key before (entry x refs) here in
      routes_joined later uses sets j
      (rw (map-with_change (λ (e : Linked Route). e.item) (λ x. x.name) t.routes key (entry x refs) table same) (IsSound-after_change (tables_of t) (item.Route x) j.sound none))
      (by_change names_of_route (λ x. x.name) signal_name t.routes t.signals j.routes table t.signal_uses uses key x refs same found counted)
      (to_change names_of_run (λ x. x.name) route_name t.runs t.routes j.runs table key (entry x refs) same)
      (sets_by_swap (λ q. q) t.routes later key before (entry x refs) t.route_sets.of_signals sets.of_signals j.signal_routes swapped here listed)
      (sets_by_swap (block_of t.signals) t.routes later key before (entry x refs) t.route_sets.of_blocks sets.of_blocks j.block_routes swapped here led)

  pub route_is_there : (n : List ℕ) → rule_of_drop (tables_of t) kind.Route n ≡ None → is_named (λ e. e.1.item.name) t.routes n ≡ true
  route_is_there n none = sym (named_route n) ∙ (free (tables_of t) kind.Route n none).there

  -- no one refers to a route that may be dropped
  pub route_drop : (n : List ℕ) (uses : List ℕ) → IsJoined t → IsTable route_name t.routes → rule_of_drop (tables_of t) kind.Route n ≡ None → ((e : Linked Route) (k : ℕ) → item_of route_name t.routes n ≡ Some e → count_of uses k + times k e.refs ≡ count_of t.signal_uses k) → (k : ℕ) (before : Linked Route) (sets : RouteSets) → key_of route_name t.routes n ≡ Some k → under t.routes k ≡ Some before → IsTakenAt (λ q. q) before.refs k t.route_sets.of_signals sets.of_signals → IsTakenAt (block_of t.signals) before.refs k t.route_sets.of_blocks sets.of_blocks → IsJoined (record t { routes = without (λ e. e.1.item.name) t.routes n; signal_uses = uses; route_sets = sets })
  route_drop n uses j table none counted k before sets is here unlisted unled =
      let later = without (λ e. e.1.item.name) t.routes n in
      let swapped = swapped_by_drop route_name t.routes n k table is in
      let unused = unreferred names_of_run (λ x. x.name) route_name t.runs t.routes j.runs table n k is (λ r. is_same r.route n) (λ r. is_listed r.route n) (free (tables_of t) kind.Route n none).unused in
      routes_joined later uses sets j
      (rw (map-without (λ (e : ℕ × Linked Route). e.1.item) (λ x. x.name) t.routes n) (IsSound-after_drop (tables_of t) kind.Route n j.sound none))
      (by_drop names_of_route (λ x. x.name) signal_name t.routes t.signals j.routes table t.signal_uses uses n (route_is_there n none) counted)
      (to_drop names_of_run (λ x. x.name) route_name t.runs t.routes j.runs table n k is unused)
      (sets_by_remove (λ q. q) t.routes later k before t.route_sets.of_signals sets.of_signals j.signal_routes swapped here unlisted)
      (sets_by_remove (block_of t.signals) t.routes later k before t.route_sets.of_blocks sets.of_blocks j.block_routes swapped here unled)
