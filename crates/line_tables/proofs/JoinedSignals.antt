-- How the tables of a line still fit together after an edit of a signal that no rule refuses.
use Rattle.std.proofs.Common.{◌≡◌, ℕ, ◌+◌, true, false, List, [], map, get_or, Some, None, refl, sym, ap, ◌∙◌, arith}
use Rattle.std.specs.Prelude.{option_map}
use Rattle.rail_model.specs.declared.items.Signal.{Signal}
use Rattle.rail_model.specs.declared.items.Item.TheVariants as item
use Rattle.rail_model.specs.declared.edit.Kind.TheVariants as kind
use Rattle.rail_model.specs.Rules.{is_named, lists, rule_of_put, rule_of_change, rule_of_drop, with_item, without, IsSound}
use Rattle.rail_model.proofs.Sound.{accepted, free, IsSound-after_put, IsSound-after_change, IsSound-after_drop}
use Rattle.line_tables.specs.declared.linked.Linked.{Linked}
use Rattle.line_tables.specs.Table.{under, with_change, key_of, item_of, IsTable}
use Rattle.line_tables.specs.KeyCounts.{count_of, times}
use Rattle.line_tables.specs.Links.{IsLinked, references, block_of}
use Rattle.line_tables.specs.RouteSets.{has, AreSetsOf}
use Rattle.line_tables.specs.declared.route_sets.RouteSets.{RouteSets}
use Rattle.line_tables.specs.Inside.{WholeTables, items_of, tables_of, names_of_signal, names_of_route, IsJoined}
use Rattle.line_tables.proofs.Filed.{stored_at, some_from_map}
use Rattle.line_tables.proofs.Entries.{is_some-key_of}
use Rattle.line_tables.proofs.References.{entry}
use Rattle.line_tables.proofs.Views.{is_named-map, map-with_item, map-with_change, map-without}
use Rattle.line_tables.proofs.Under.{swapped_by_put, swapped_by_change, swapped_by_drop}
use Rattle.line_tables.proofs.Reaches.{sets_same}
use Rattle.line_tables.proofs.Moves.{HasFollowed, sets_by_put, sets_by_drop, sets_by_change}
use Rattle.line_tables.proofs.Known.{CountsMore}
use Rattle.line_tables.proofs.Joined.{IsEdited, by_put, by_change, by_drop, to_put, to_change, to_drop, unreferred}
use Rattle.line_tables.proofs.Labels.{block_name, signal_name}

module _ (t : WholeTables) where
  -- other signals, which refer to blocks and to which routes refer
  signals_joined : (signals : List (ℕ × Linked Signal)) (uses : List ℕ) (sets : RouteSets) → IsJoined t → IsSound (tables_of (record t { signals = signals })) → IsEdited names_of_signal block_name t.blocks t.signals signals t.block_uses uses → IsLinked names_of_route signal_name t.routes signals → AreSetsOf (λ q. q) t.routes sets.of_signals → AreSetsOf (block_of signals) t.routes sets.of_blocks → IsJoined (record t { signals = signals; block_uses = uses; route_sets = sets })
  signals_joined signals uses sets j sound e routes of_signals of_blocks = record {
    sound = sound;
    signals = e.links;
    routes = routes;
    runs = j.runs;
    sections = j.sections;
    connections = j.connections;
    block_uses = λ k. omega (arith, j.block_uses k, e.counts k);
    signal_uses = j.signal_uses;
    route_uses = j.route_uses;
    run_uses = j.run_uses;
    signal_routes = of_signals;
    block_routes = of_blocks;
  }

  named_signal : (n : List ℕ) → is_named (λ (x : Signal). x.name) (items_of t.signals) n ≡ is_named (λ e. e.1.item.name) t.signals n
  named_signal n = is_named-map (λ (e : ℕ × Linked Signal). e.1.item) (λ x. x.name) t.signals n

  pub signal_is_new : (x : Signal) → rule_of_put (tables_of t) (item.Signal x) ≡ None → is_named (λ e. e.1.item.name) t.signals x.name ≡ false
  signal_is_new x none = sym (named_signal x.name) ∙ (accepted (tables_of t) (item.Signal x) none).new

  pub signal_put : (key : ℕ) (x : Signal) (refs uses : List ℕ) → IsJoined t → IsTable signal_name t.signals → under t.signals key ≡ None → rule_of_put (tables_of t) (item.Signal x) ≡ None → map (key_of block_name t.blocks) (names_of_signal x) ≡ map Some refs → CountsMore t.block_uses uses refs → IsJoined (record t { signals = with_item (λ e. e.1.item.name) t.signals (key, entry x refs); block_uses = uses })
  signal_put key x refs uses j table vacant none found counted =
      let new = signal_is_new x none in
      let later = with_item (λ e. e.1.item.name) t.signals (key, entry x refs) in
      signals_joined later uses t.route_sets j
      (rw (map-with_item (λ (e : ℕ × Linked Signal). e.1.item) (λ x. x.name) t.signals (key, entry x refs)) (IsSound-after_put (tables_of t) (item.Signal x) j.sound none))
      (by_put names_of_signal (λ x. x.name) block_name t.signals t.blocks j.signals table t.block_uses uses key x refs new found counted)
      (to_put names_of_route (λ x. x.name) signal_name t.routes t.signals j.routes table key (entry x refs) new)
      j.signal_routes
      (sets_by_put t j later key (Some (entry x refs)) (swapped_by_put signal_name t.signals key (entry x refs) table new vacant) table vacant)

  pub signal_change : (key : ℕ) (x : Signal) (refs uses : List ℕ) → IsJoined t → IsTable signal_name t.signals → option_map signal_name (under t.signals key) ≡ Some x.name → rule_of_change (tables_of t) (item.Signal x) ≡ None → map (key_of block_name t.blocks) (names_of_signal x) ≡ map Some refs → ((e : Linked Signal) (k : ℕ) → under t.signals key ≡ Some e → count_of uses k + times k e.refs ≡ count_of t.block_uses k + times k refs) → (from to : ℕ) (sets : RouteSets) → IsTable block_name t.blocks → block_of t.signals key ≡ from → get_or refs 0 0 ≡ to → sets.of_signals ≡ t.route_sets.of_signals → HasFollowed (get_or t.route_sets.of_signals key []) from to t.route_sets.of_blocks sets.of_blocks → IsJoined (record t { signals = with_change t.signals key (entry x refs); block_uses = uses; route_sets = sets })
  signal_change key x refs uses j table same none found counted from to sets blocks is goes listed follows =
      let old = some_from_map signal_name (under t.signals key) x.name same in
      let later = with_change t.signals key (entry x refs) in
      signals_joined later uses sets j
      (rw (map-with_change (λ (e : Linked Signal). e.item) (λ x. x.name) t.signals key (entry x refs) table same) (IsSound-after_change (tables_of t) (item.Signal x) j.sound none))
      (by_change names_of_signal (λ x. x.name) block_name t.signals t.blocks j.signals table t.block_uses uses key x refs same found counted)
      (to_change names_of_route (λ x. x.name) signal_name t.routes t.signals j.routes table key (entry x refs) same)
      (sets_same (λ q. q) t.routes t.route_sets.of_signals sets.of_signals (λ y r. ap (λ l. has l y r) listed) j.signal_routes)
      (sets_by_change t j table blocks later key from to x refs sets.of_blocks (swapped_by_change t.signals key old.0 (entry x refs) old.1) is goes follows)

  pub signal_is_there : (n : List ℕ) → rule_of_drop (tables_of t) kind.Signal n ≡ None → is_named (λ e. e.1.item.name) t.signals n ≡ true
  signal_is_there n none = sym (named_signal n) ∙ (free (tables_of t) kind.Signal n none).there

  -- no one refers to a signal that may be dropped
  pub signal_unused : (n : List ℕ) (key : ℕ) → IsJoined t → IsTable signal_name t.signals → rule_of_drop (tables_of t) kind.Signal n ≡ None → key_of signal_name t.signals n ≡ Some key → references t.routes key ≡ 0
  signal_unused n key j table none here =
      unreferred names_of_route (λ x. x.name) signal_name t.routes t.signals j.routes table n key here (λ r. lists r.signals n) (λ r. refl) (free (tables_of t) kind.Signal n none).unused

  pub signal_drop : (n : List ℕ) (uses : List ℕ) → IsJoined t → IsTable signal_name t.signals → rule_of_drop (tables_of t) kind.Signal n ≡ None → ((e : Linked Signal) (k : ℕ) → item_of signal_name t.signals n ≡ Some e → count_of uses k + times k e.refs ≡ count_of t.block_uses k) → IsJoined (record t { signals = without (λ e. e.1.item.name) t.signals n; block_uses = uses })
  signal_drop n uses j table none counted =
      let later = without (λ e. e.1.item.name) t.signals n in
      let key = stored_at (key_of signal_name t.signals n) (is_some-key_of signal_name t.signals n ∙ signal_is_there n none) in
      let unused = signal_unused n key.0 j table none key.1 in
      signals_joined later uses t.route_sets j
      (rw (map-without (λ (e : ℕ × Linked Signal). e.1.item) (λ x. x.name) t.signals n) (IsSound-after_drop (tables_of t) kind.Signal n j.sound none))
      (by_drop names_of_signal (λ x. x.name) block_name t.signals t.blocks j.signals table t.block_uses uses n (signal_is_there n none) counted)
      (to_drop names_of_route (λ x. x.name) signal_name t.routes t.signals j.routes table n key.0 key.1 unused)
      j.signal_routes
      (sets_by_drop t j later key.0 None (swapped_by_drop signal_name t.signals n key.0 table key.1) unused)
