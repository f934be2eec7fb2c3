use Rattle.std.proofs.Common.{◌≡◌, ◌==◌, ◌+◌, ℕ, List, Bool, true, false, Some, None, refl, ap, sym, ◌∙◌, arith}
use Rattle.std.specs.Prelude.{is_some, option_map, if◌then◌else◌}
use Rattle.std.specs.List.{list_all}
use Rattle.rail_model.specs.declared.items.Block.{Block}
use Rattle.rail_model.specs.declared.items.Route.{Route}
use Rattle.rail_model.specs.declared.items.Item.TheVariants as item
use Rattle.rail_model.specs.declared.edit.Rule.TheVariants.{Unknown, Twice, Count}
use Rattle.rail_model.specs.Rules.{is_named, has_route, makes_miscount, rule_of_change}
use Rattle.rail_model.specs.Within.{is_within}
use Rattle.line_tables.specs.declared.linked.Linked.{Linked}
use Rattle.line_tables.specs.declared.route_signals.RouteSignals.{RouteSignals}
use Rattle.line_tables.specs.RouteSignals.{AreSignalsOf}
use Rattle.line_tables.specs.Table.{under, with_change, named, key_of, IsTable}
use Rattle.line_tables.specs.KeyCounts.{count_of, times}
use Rattle.line_tables.specs.KeptRoutes.{with_names}
use Rattle.line_tables.specs.Links.{block_of}
use Rattle.line_tables.specs.Inside.{whole_tables, WholeTables, tables_of, IsJoined}
use Rattle.line_tables.proofs.Found.{name_under, found_by_key}
use Rattle.line_tables.proofs.References.{entry}
use Rattle.line_tables.proofs.Entries.{is_some-key_of}
use Rattle.line_tables.proofs.Views.{is_named-map, map-with_change}
use Rattle.line_tables.proofs.FoundSignals.{repeats_as_found}
use Rattle.line_tables.proofs.Along.{change_at_images}
use Rattle.line_tables.proofs.Moves.{one_block, listed_keys}
use Rattle.line_tables.proofs.Known.{refs_of_found, route_known_by}
use Rattle.line_tables.proofs.Answered.{refuses, makes}
use Rattle.line_tables.proofs.RulesOfChange.{refused_route, refused_unknown, refused_twice, refused_count}
use Rattle.line_tables.proofs.JoinedRoutes.{routes_stay, route_change}
use Rattle.line_tables.proofs.KeptRoutes.{under_with_names}
use Rattle.line_tables.proofs.KeptLine.{kept, kept_table, kept_key, kept_under, kept_references, of_kept, route_changed_in, joined_with_routes}
use Rattle.line_tables.proofs.Labels.{signal_name, route_name, kept_name}
use Rattle.line_tables.proofs.line_tables.LineTables.replace_route.Goals as goal

has_route_by : (t : WholeTables) (n : List ℕ) → has_route (tables_of t) n ≡ is_some (key_of route_name t.routes n)
has_route_by t n =
    is_named-map (λ (e : ℕ × Linked Route). e.1.item) (λ x. x.name) t.routes n ∙ sym (is_some-key_of route_name t.routes n)

-- what refuses a route that is there and whose signals are
module _ (t : WholeTables) (j : IsJoined t) (signal_table : IsTable signal_name t.signals) (block_table : IsTable (λ (b : Block). b.name) t.blocks) (x : Route) (within : is_within (item.Route x) ≡ true) (key : ℕ) (here : key_of route_name t.routes x.name ≡ Some key) (found : RouteSignals) (known : list_all (is_named (named signal_name) t.signals) x.signals ≡ true) (are : AreSignalsOf t.signals x.signals found) where
  repeating : found.twice ≡ true → rule_of_change (tables_of t) (item.Route x) ≡ Some Twice
  repeating twice =
      refused_twice (tables_of t) x within (has_route_by t x.name ∙ ap is_some here) (route_known_by t x ∙ known) (repeats_as_found t j signal_table block_table x found are ∙ twice)

  counting : found.twice ≡ false → (wrong : Bool) → makes_miscount (tables_of t) (item.Route x) ≡ wrong → rule_of_change (tables_of t) (item.Route x) ≡ (if wrong then Some Count else None)
  counting once wrong is =
      refused_count (tables_of t) x within (has_route_by t x.name ∙ ap is_some here) (route_known_by t x ∙ known) (repeats_as_found t j signal_table block_table x found are ∙ once) wrong is

pub returns-in_default : goal.returns-in_default
returns-in_default c =
    rw (← c.self.view_is) (refuses _ _ _ _ Unknown (refused_route (tables_of (whole_tables c.self.inside)) c.args.route.now c.requires (has_route_by (whole_tables c.self.inside) c.args.route.now.name ∙ ap is_some (kept_key c.self.inside c.args.route.now.name ∙ sym c.in_default.ensures.key))) refl)

pub returns-in_default-2 : goal.returns-in_default-2
returns-in_default-2 c =
    let t = whole_tables c.self.inside in
    let x = c.args.route.now in
    rw (← c.self.view_is) (refuses _ _ _ _ Unknown (refused_unknown (tables_of t) x c.requires (has_route_by t x.name ∙ ap is_some (kept_key c.self.inside x.name ∙ sym c.in-Some.ensures.key)) (route_known_by t x ∙ sym c.in_ok-found.ensures.known ∙ ap is_some c.in_default-2.is)) refl)

pub route_signals-requires : goal.route_signals-requires
route_signals-requires c = one_block (whole_tables c.self.inside) c.self.invariant

pub returns-then-found : goal.returns-then-found
returns-then-found c =
    let found = c.in_ok-found.ensures in
    rw (← c.self.view_is) (refuses _ _ _ _ Twice (repeating (whole_tables c.self.inside) c.self.invariant found.table c.learn_order.ensures c.args.route.now c.requires c.in-Some.key (kept_key c.self.inside c.args.route.now.name ∙ sym c.in-Some.ensures.key) c.in-Some-2.found (sym found.known ∙ ap is_some c.in-Some-2.is) (rw c.in-Some-2.is at found.found) c.if-found.true) refl)

pub makes_miscount-requires : goal.makes_miscount-requires
makes_miscount-requires c =
    rw (← c.self.view_is) (has_route_by (whole_tables c.self.inside) c.args.route.now.name ∙ ap is_some (kept_key c.self.inside c.args.route.now.name ∙ sym c.in-Some.ensures.key))

pub returns-then-makes_miscount : goal.returns-then-makes_miscount
returns-then-makes_miscount c =
    let found = c.in_ok-found.ensures in
    let wrong = sym (rw (← c.self.view_is) at c.makes_miscount.ensures) ∙ c.if-makes_miscount.true in
    rw (← c.self.view_is) (refuses _ _ _ _ Count (counting (whole_tables c.self.inside) c.self.invariant found.table c.learn_order.ensures c.args.route.now c.requires c.in-Some.key (kept_key c.self.inside c.args.route.now.name ∙ sym c.in-Some.ensures.key) c.in-Some-2.found (sym found.known ∙ ap is_some c.in-Some-2.is) (rw c.in-Some-2.is at found.found) c.if-found.false true wrong) refl)

pub swap_route-requires : goal.swap_route-requires
swap_route-requires c =
    let t = c.self.inside in
    let key = c.in-Some.key in
    record {
      same_name = name_under kept_name t.routes c.args.route.now.name key c.key_of.ensures.table (sym c.in-Some.ensures.key);
      counted_before = λ e k h. omega (arith, c.self.invariant.signal_uses k, kept_references t k, refs_of_found (λ u. u.0 == key) t.routes e k h);
      there = λ e h. listed_keys (whole_tables t) c.self.invariant c.in_ok-found.ensures.table key (with_names t.signals e) (kept_under t key e h);
      one = one_block (whole_tables t) c.self.invariant;
    }

pub invariant_of-self : goal.invariant_of-self
invariant_of-self c =
    let stayed = c.in_err-swap_route.ensures in
    rw stayed.kept (routes_stay (whole_tables c.self.inside) c.swap_route.new.uses c.swap_route.new.sets c.self.invariant stayed.kept_counts stayed.kept_signals stayed.kept_blocks)

-- the route of the name is there
same_name : (c : goal.In_ok-swap_route) → option_map route_name (under (whole_tables c.self.inside).routes c.in-Some.key) ≡ Some c.args.route.now.name
same_name c =
    let x = c.args.route.now in
    name_under route_name (whole_tables c.self.inside).routes x.name c.in-Some.key (kept_table c.self.inside c.key_of.ensures.table) (kept_key c.self.inside x.name ∙ sym c.in-Some.ensures.key)

-- no rule refuses it
accepted : (c : goal.In_ok-swap_route) → rule_of_change (tables_of (whole_tables c.self.inside)) (item.Route c.args.route.now) ≡ None
accepted c =
    let t = whole_tables c.self.inside in
    let x = c.args.route.now in
    let found = c.in_ok-found.ensures in
    let right = sym (rw (← c.self.view_is) at c.makes_miscount.ensures) ∙ c.if-makes_miscount.false in
    counting t c.self.invariant found.table c.learn_order.ensures x c.requires c.in-Some.key (kept_key c.self.inside x.name ∙ sym c.in-Some.ensures.key) c.in-Some-2.found (sym found.known ∙ ap is_some c.in-Some-2.is) (rw c.in-Some-2.is at found.found) c.if-found.false false right

pub invariant_of-self-2 : goal.invariant_of-self-2
invariant_of-self-2 c =
    let t = c.self.inside in
    let x = c.args.route.now in
    let key = c.in-Some.key in
    let signals = c.in-Some-2.found in
    let done = c.in_ok-swap_route.ensures in
    let found = c.in_ok-found.ensures in
    let are = rw c.in-Some-2.is at found.found in
    let new = c.swap_route.new in
    let before = found_by_key kept_name t.routes x.name key c.key_of.ensures.table (sym c.in-Some.ensures.key) in
    let old = with_names t.signals before.0 in
    let counted = λ (e : Linked Route) (k : ℕ) (h : under (whole_tables t).routes key ≡ Some e). of_kept t (under (whole_tables t).routes key) (under t.routes key) (under_with_names t.signals t.routes key) (λ (e : Linked Route). count_of new.uses k + times k e.refs ≡ count_of t.signal_uses k + times k signals.keys) (λ was here. done.counted was k here) e h in
    rw done.changed
    (joined_with_routes t (with_change t.routes key (kept x signals.keys)) (with_change (whole_tables t).routes key (entry x signals.keys)) new.uses new.sets
    (route_changed_in t x signals.keys found.table are.keyed key)
    (route_change (whole_tables t) key x signals.keys new.uses c.self.invariant (kept_table t c.key_of.ensures.table) (same_name c) (accepted c) are.keyed counted old new.sets (kept_under t key before.0 before.1.under)
    (done.signals before.0 before.1.under)
    (change_at_images (block_of t.signals) old.refs signals.keys signals.blocks key t.route_sets.of_blocks new.sets.of_blocks are.blocks (done.blocks before.0 before.1.under))))

pub returns : goal.returns
returns c =
    let t = whole_tables c.self.inside in
    let x = c.args.route.now in
    let key = c.in-Some.key in
    let signals = c.in-Some-2.found in
    let found = c.in_ok-found.ensures in
    let are = rw c.in-Some-2.is at found.found in
    rw (← c.self.view_is, c.in_ok-swap_route.ensures.changed)
    (makes _ _ _ _ (accepted c)
    (ap (λ l. tables_of (record t { routes = l })) (route_changed_in c.self.inside x signals.keys found.table are.keyed key)
    ∙ ap (λ l. record (tables_of t) { routes = l }) (map-with_change (λ (e : Linked _). e.item) (λ x. x.name) t.routes key (entry x signals.keys) (kept_table c.self.inside c.key_of.ensures.table) (same_name c))))
