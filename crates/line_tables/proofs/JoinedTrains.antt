-- How the tables of a line still fit together after an edit of a run, a section or a connection that no rule refuses.
use Rattle.std.proofs.Common.{◌≡◌, ℕ, ◌+◌, true, false, ◌||◌, List, map, Some, None, refl, sym, ◌∙◌, inl, inr, arith}
use Rattle.std.specs.Prelude.{option_map}
use Rattle.std.specs.List.{list_any}
use Rattle.std.proofs.lemmas.Bool.{cases_Bool, or_parts}
use Rattle.rail_model.specs.declared.items.Run.{Run}
use Rattle.rail_model.specs.declared.items.Section.{Section}
use Rattle.rail_model.specs.declared.items.Connection.{Connection}
use Rattle.rail_model.specs.declared.items.Item.TheVariants as item
use Rattle.rail_model.specs.declared.edit.Kind.TheVariants as kind
use Rattle.rail_model.specs.Name.{is_same}
use Rattle.rail_model.specs.Rules.{is_named, rule_of_put, rule_of_change, rule_of_drop, with_item, without, IsSound}
use Rattle.rail_model.proofs.Sound.{accepted, changeable, free, IsSound-after_put, IsSound-after_change, IsSound-after_drop}
use Rattle.line_tables.specs.declared.linked.Linked.{Linked}
use Rattle.line_tables.specs.Table.{under, with_change, key_of, item_of, IsTable}
use Rattle.line_tables.specs.KeyCounts.{count_of, times}
use Rattle.line_tables.specs.Links.{IsLinked}
use Rattle.line_tables.specs.Inside.{WholeTables, items_of, tables_of, names_of_run, names_of_section, names_of_connection, IsJoined}
use Rattle.line_tables.proofs.Filed.{stored_at}
use Rattle.line_tables.proofs.Entries.{is_some-key_of}
use Rattle.line_tables.proofs.References.{entry}
use Rattle.line_tables.proofs.Views.{is_named-map, map-with_item, map-with_change, map-without}
use Rattle.line_tables.proofs.Known.{CountsMore}
use Rattle.line_tables.proofs.Joined.{IsEdited, by_put, by_change, by_drop, to_put, to_change, to_drop, unreferred}
use Rattle.line_tables.proofs.Labels.{block_name, route_name}

pub either_is_listed : (c : Connection) (n : List ℕ) → list_any (λ m. is_same m n) (names_of_connection c) ≡ (is_same c.first n || is_same c.second n)
either_is_listed c n = elim (cases_Bool (is_same c.second n)) [ inl e ↦ rw e refl | inr e ↦ rw e refl ]

-- ---- runs

abbrev run_name : Linked Run → List ℕ
run_name e = e.item.name

module _ (t : WholeTables) where
  runs_joined : (runs : List (ℕ × Linked Run)) (uses : List ℕ) → IsJoined t → IsSound (tables_of (record t { runs = runs })) → IsEdited names_of_run route_name t.routes t.runs runs t.route_uses uses → IsLinked names_of_connection run_name t.connections runs → IsJoined (record t { runs = runs; route_uses = uses })
  runs_joined runs uses j sound e connections = record {
    sound = sound;
    signals = j.signals;
    routes = j.routes;
    runs = e.links;
    sections = j.sections;
    connections = connections;
    block_uses = j.block_uses;
    signal_uses = j.signal_uses;
    route_uses = λ k. omega (arith, j.route_uses k, e.counts k);
    run_uses = j.run_uses;
    signal_routes = j.signal_routes;
    block_routes = j.block_routes;
  }

  named_run : (n : List ℕ) → is_named (λ (x : Run). x.name) (items_of t.runs) n ≡ is_named (λ e. e.1.item.name) t.runs n
  named_run n = is_named-map (λ (e : ℕ × Linked Run). e.1.item) (λ x. x.name) t.runs n

  pub run_is_new : (x : Run) → rule_of_put (tables_of t) (item.Run x) ≡ None → is_named (λ e. e.1.item.name) t.runs x.name ≡ false
  run_is_new x none = sym (named_run x.name) ∙ (accepted (tables_of t) (item.Run x) none).new

  pub run_put : (key : ℕ) (x : Run) (refs uses : List ℕ) → IsJoined t → IsTable run_name t.runs → rule_of_put (tables_of t) (item.Run x) ≡ None → map (key_of route_name t.routes) (names_of_run x) ≡ map Some refs → CountsMore t.route_uses uses refs → IsJoined (record t { runs = with_item (λ e. e.1.item.name) t.runs (key, entry x refs); route_uses = uses })
  run_put key x refs uses j table none found counted =
      let new = run_is_new x none in
      runs_joined (with_item (λ e. e.1.item.name) t.runs (key, entry x refs)) uses j
      (rw (map-with_item (λ (e : ℕ × Linked Run). e.1.item) (λ x. x.name) t.runs (key, entry x refs)) (IsSound-after_put (tables_of t) (item.Run x) j.sound none))
      (by_put names_of_run (λ x. x.name) route_name t.runs t.routes j.runs table t.route_uses uses key x refs new found counted)
      (to_put names_of_connection (λ x. x.name) run_name t.connections t.runs j.connections table key (entry x refs) new)

  pub run_stays : (x : Run) → rule_of_change (tables_of t) (item.Run x) ≡ None → is_named (λ e. e.1.item.name) t.runs x.name ≡ true
  run_stays x none = sym (named_run x.name) ∙ (changeable (tables_of t) (item.Run x) none).there

  pub run_change : (key : ℕ) (x : Run) (refs uses : List ℕ) → IsJoined t → IsTable run_name t.runs → option_map run_name (under t.runs key) ≡ Some x.name → rule_of_change (tables_of t) (item.Run x) ≡ None → map (key_of route_name t.routes) (names_of_run x) ≡ map Some refs → ((e : Linked Run) (k : ℕ) → under t.runs key ≡ Some e → count_of uses k + times k e.refs ≡ count_of t.route_uses k + times k refs) → IsJoined (record t { runs = with_change t.runs key (entry x refs); route_uses = uses })
  run_change key x refs uses j table same none found counted =
      runs_joined (with_change t.runs key (entry x refs)) uses j
      (rw (map-with_change (λ (e : Linked Run). e.item) (λ x. x.name) t.runs key (entry x refs) table same) (IsSound-after_change (tables_of t) (item.Run x) j.sound none))
      (by_change names_of_run (λ x. x.name) route_name t.runs t.routes j.runs table t.route_uses uses key x refs same found counted)
      (to_change names_of_connection (λ x. x.name) run_name t.connections t.runs j.connections table key (entry x refs) same)

  pub run_is_there : (n : List ℕ) → rule_of_drop (tables_of t) kind.Run n ≡ None → is_named (λ e. e.1.item.name) t.runs n ≡ true
  run_is_there n none = sym (named_run n) ∙ (free (tables_of t) kind.Run n none).there

  -- no one refers to a run that may be dropped
  pub run_drop : (n : List ℕ) (uses : List ℕ) → IsJoined t → IsTable run_name t.runs → rule_of_drop (tables_of t) kind.Run n ≡ None → ((e : Linked Run) (k : ℕ) → item_of run_name t.runs n ≡ Some e → count_of uses k + times k e.refs ≡ count_of t.route_uses k) → IsJoined (record t { runs = without (λ e. e.1.item.name) t.runs n; route_uses = uses })
  run_drop n uses j table none counted =
      let key = stored_at (key_of run_name t.runs n) (is_some-key_of run_name t.runs n ∙ run_is_there n none) in
      let unused = unreferred names_of_connection (λ x. x.name) run_name t.connections t.runs j.connections table n key.0 key.1 (λ c. is_same c.first n || is_same c.second n) (λ c. sym (either_is_listed c n)) (free (tables_of t) kind.Run n none).unused in
      runs_joined (without (λ e. e.1.item.name) t.runs n) uses j
      (rw (map-without (λ (e : ℕ × Linked Run). e.1.item) (λ x. x.name) t.runs n) (IsSound-after_drop (tables_of t) kind.Run n j.sound none))
      (by_drop names_of_run (λ x. x.name) route_name t.runs t.routes j.runs table t.route_uses uses n (run_is_there n none) counted)
      (to_drop names_of_connection (λ x. x.name) run_name t.connections t.runs j.connections table n key.0 key.1 unused)

-- ---- sections

abbrev section_name : Linked Section → List ℕ
section_name e = e.item.name

module _ (t : WholeTables) where
  sections_joined : (sections : List (ℕ × Linked Section)) (uses : List ℕ) → IsJoined t → IsSound (tables_of (record t { sections = sections })) → IsEdited names_of_section block_name t.blocks t.sections sections t.block_uses uses → IsJoined (record t { sections = sections; block_uses = uses })
  sections_joined sections uses j sound e = record {
    sound = sound;
    signals = j.signals;
    routes = j.routes;
    runs = j.runs;
    sections = e.links;
    connections = j.connections;
    block_uses = λ k. omega (arith, j.block_uses k, e.counts k);
    signal_uses = j.signal_uses;
    route_uses = j.route_uses;
    run_uses = j.run_uses;
    signal_routes = j.signal_routes;
    block_routes = j.block_routes;
  }

  named_section : (n : List ℕ) → is_named (λ (x : Section). x.name) (items_of t.sections) n ≡ is_named (λ e. e.1.item.name) t.sections n
  named_section n = is_named-map (λ (e : ℕ × Linked Section). e.1.item) (λ x. x.name) t.sections n

  pub section_is_new : (x : Section) → rule_of_put (tables_of t) (item.Section x) ≡ None → is_named (λ e. e.1.item.name) t.sections x.name ≡ false
  section_is_new x none = sym (named_section x.name) ∙ (accepted (tables_of t) (item.Section x) none).new

  pub section_put : (key : ℕ) (x : Section) (refs uses : List ℕ) → IsJoined t → IsTable section_name t.sections → rule_of_put (tables_of t) (item.Section x) ≡ None → map (key_of block_name t.blocks) (names_of_section x) ≡ map Some refs → CountsMore t.block_uses uses refs → IsJoined (record t { sections = with_item (λ e. e.1.item.name) t.sections (key, entry x refs); block_uses = uses })
  section_put key x refs uses j table none found counted =
      let new = section_is_new x none in
      sections_joined (with_item (λ e. e.1.item.name) t.sections (key, entry x refs)) uses j
      (rw (map-with_item (λ (e : ℕ × Linked Section). e.1.item) (λ x. x.name) t.sections (key, entry x refs)) (IsSound-after_put (tables_of t) (item.Section x) j.sound none))
      (by_put names_of_section (λ x. x.name) block_name t.sections t.blocks j.sections table t.block_uses uses key x refs new found counted)

  pub section_stays : (x : Section) → rule_of_change (tables_of t) (item.Section x) ≡ None → is_named (λ e. e.1.item.name) t.sections x.name ≡ true
  section_stays x none = sym (named_section x.name) ∙ (changeable (tables_of t) (item.Section x) none).there

  pub section_change : (key : ℕ) (x : Section) (refs uses : List ℕ) → IsJoined t → IsTable section_name t.sections → option_map section_name (under t.sections key) ≡ Some x.name → rule_of_change (tables_of t) (item.Section x) ≡ None → map (key_of block_name t.blocks) (names_of_section x) ≡ map Some refs → ((e : Linked Section) (k : ℕ) → under t.sections key ≡ Some e → count_of uses k + times k e.refs ≡ count_of t.block_uses k + times k refs) → IsJoined (record t { sections = with_change t.sections key (entry x refs); block_uses = uses })
  section_change key x refs uses j table same none found counted =
      sections_joined (with_change t.sections key (entry x refs)) uses j
      (rw (map-with_change (λ (e : Linked Section). e.item) (λ x. x.name) t.sections key (entry x refs) table same) (IsSound-after_change (tables_of t) (item.Section x) j.sound none))
      (by_change names_of_section (λ x. x.name) block_name t.sections t.blocks j.sections table t.block_uses uses key x refs same found counted)

  pub section_is_there : (n : List ℕ) → rule_of_drop (tables_of t) kind.Section n ≡ None → is_named (λ e. e.1.item.name) t.sections n ≡ true
  section_is_there n none = sym (named_section n) ∙ (free (tables_of t) kind.Section n none).there

  pub section_drop : (n : List ℕ) (uses : List ℕ) → IsJoined t → IsTable section_name t.sections → rule_of_drop (tables_of t) kind.Section n ≡ None → ((e : Linked Section) (k : ℕ) → item_of section_name t.sections n ≡ Some e → count_of uses k + times k e.refs ≡ count_of t.block_uses k) → IsJoined (record t { sections = without (λ e. e.1.item.name) t.sections n; block_uses = uses })
  section_drop n uses j table none counted =
      sections_joined (without (λ e. e.1.item.name) t.sections n) uses j
      (rw (map-without (λ (e : ℕ × Linked Section). e.1.item) (λ x. x.name) t.sections n) (IsSound-after_drop (tables_of t) kind.Section n j.sound none))
      (by_drop names_of_section (λ x. x.name) block_name t.sections t.blocks j.sections table t.block_uses uses n (section_is_there n none) counted)

-- ---- connections

abbrev connection_name : Linked Connection → List ℕ
connection_name e = e.item.name

module _ (t : WholeTables) where
  connections_joined : (connections : List (ℕ × Linked Connection)) (uses : List ℕ) → IsJoined t → IsSound (tables_of (record t { connections = connections })) → IsEdited names_of_connection run_name t.runs t.connections connections t.run_uses uses → IsJoined (record t { connections = connections; run_uses = uses })
  connections_joined connections uses j sound e = record {
    sound = sound;
    signals = j.signals;
    routes = j.routes;
    runs = j.runs;
    sections = j.sections;
    connections = e.links;
    block_uses = j.block_uses;
    signal_uses = j.signal_uses;
    route_uses = j.route_uses;
    run_uses = λ k. omega (arith, j.run_uses k, e.counts k);
    signal_routes = j.signal_routes;
    block_routes = j.block_routes;
  }

  named_connection : (n : List ℕ) → is_named (λ (x : Connection). x.name) (items_of t.connections) n ≡ is_named (λ e. e.1.item.name) t.connections n
  named_connection n = is_named-map (λ (e : ℕ × Linked Connection). e.1.item) (λ x. x.name) t.connections n

  pub connection_is_new : (x : Connection) → rule_of_put (tables_of t) (item.Connection x) ≡ None → is_named (λ e. e.1.item.name) t.connections x.name ≡ false
  connection_is_new x none = sym (named_connection x.name) ∙ (or_parts _ _ (accepted (tables_of t) (item.Connection x) none).new).0

  pub connection_put : (key : ℕ) (x : Connection) (refs uses : List ℕ) → IsJoined t → IsTable connection_name t.connections → rule_of_put (tables_of t) (item.Connection x) ≡ None → map (key_of run_name t.runs) (names_of_connection x) ≡ map Some refs → CountsMore t.run_uses uses refs → IsJoined (record t { connections = with_item (λ e. e.1.item.name) t.connections (key, entry x refs); run_uses = uses })
  connection_put key x refs uses j table none found counted =
      let new = connection_is_new x none in
      connections_joined (with_item (λ e. e.1.item.name) t.connections (key, entry x refs)) uses j
      (rw (map-with_item (λ (e : ℕ × Linked Connection). e.1.item) (λ x. x.name) t.connections (key, entry x refs)) (IsSound-after_put (tables_of t) (item.Connection x) j.sound none))
      (by_put names_of_connection (λ x. x.name) run_name t.connections t.runs j.connections table t.run_uses uses key x refs new found counted)

  pub connection_stays : (x : Connection) → rule_of_change (tables_of t) (item.Connection x) ≡ None → is_named (λ e. e.1.item.name) t.connections x.name ≡ true
  connection_stays x none = sym (named_connection x.name) ∙ (changeable (tables_of t) (item.Connection x) none).there

  pub connection_change : (key : ℕ) (x : Connection) (refs uses : List ℕ) → IsJoined t → IsTable connection_name t.connections → option_map connection_name (under t.connections key) ≡ Some x.name → rule_of_change (tables_of t) (item.Connection x) ≡ None → map (key_of run_name t.runs) (names_of_connection x) ≡ map Some refs → ((e : Linked Connection) (k : ℕ) → under t.connections key ≡ Some e → count_of uses k + times k e.refs ≡ count_of t.run_uses k + times k refs) → IsJoined (record t { connections = with_change t.connections key (entry x refs); run_uses = uses })
  connection_change key x refs uses j table same none found counted =
      connections_joined (with_change t.connections key (entry x refs)) uses j
      (rw (map-with_change (λ (e : Linked Connection). e.item) (λ x. x.name) t.connections key (entry x refs) table same) (IsSound-after_change (tables_of t) (item.Connection x) j.sound none))
      (by_change names_of_connection (λ x. x.name) run_name t.connections t.runs j.connections table t.run_uses uses key x refs same found counted)

  pub connection_is_there : (n : List ℕ) → rule_of_drop (tables_of t) kind.Connection n ≡ None → is_named (λ e. e.1.item.name) t.connections n ≡ true
  connection_is_there n none = sym (named_connection n) ∙ (free (tables_of t) kind.Connection n none).there

  pub connection_drop : (n : List ℕ) (uses : List ℕ) → IsJoined t → IsTable connection_name t.connections → rule_of_drop (tables_of t) kind.Connection n ≡ None → ((e : Linked Connection) (k : ℕ) → item_of connection_name t.connections n ≡ Some e → count_of uses k + times k e.refs ≡ count_of t.run_uses k) → IsJoined (record t { connections = without (λ e. e.1.item.name) t.connections n; run_uses = uses })
  connection_drop n uses j table none counted =
      connections_joined (without (λ e. e.1.item.name) t.connections n) uses j
      (rw (map-without (λ (e : ℕ × Linked Connection). e.1.item) (λ x. x.name) t.connections n) (IsSound-after_drop (tables_of t) kind.Connection n j.sound none))
      (by_drop names_of_connection (λ x. x.name) run_name t.connections t.runs j.connections table t.run_uses uses n (connection_is_there n none) counted)
