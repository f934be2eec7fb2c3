use Rattle.std.proofs.Common.{◌≡◌, ◌∙◌, ℕ, Bool, true, if◌then◌else◌, Option, Some, None, false, refl, sym, ap}
use Rattle.std.specs.Prelude.{is_some}
use Rattle.std.specs.List.{list_all}
use Rattle.rail_model.specs.declared.items.Item.TheVariants as item
use Rattle.rail_model.specs.declared.items.Block.{Block}
use Rattle.rail_model.specs.declared.items.Route.{Route}
use Rattle.rail_model.specs.declared.edit.Rule.{Rule}
use Rattle.rail_model.specs.declared.edit.Rule.TheVariants.{Unknown, Twice}
use Rattle.rail_model.specs.Rules.{is_named, with_item, refers_to_known, rule_of_put}
use Rattle.line_tables.specs.declared.linked.Linked.{Linked}
use Rattle.line_tables.specs.declared.route_signals.RouteSignals.{RouteSignals}
use Rattle.line_tables.specs.RouteSignals.{AreSignalsOf}
use Rattle.line_tables.specs.Links.{block_of}
use Rattle.line_tables.specs.Table.{named, IsTable}
use Rattle.line_tables.specs.References.{rule_of_item}
use Rattle.line_tables.specs.Inside.{whole_tables, WholeTables, tables_of, IsJoined}
use Rattle.line_tables.proofs.References.{entry}
use Rattle.line_tables.proofs.Views.{map-with_item}
use Rattle.line_tables.proofs.Along.{put_at_images}
use Rattle.line_tables.proofs.FoundSignals.{repeats_as_found}
use Rattle.line_tables.proofs.Moves.{one_block}
use Rattle.line_tables.proofs.Known.{route_known_by, refused_unknown, refused_twice}
use Rattle.line_tables.proofs.Answered.{refuses, makes}
use Rattle.line_tables.proofs.RulesOfPut.{refused_then}
use Rattle.line_tables.proofs.JoinedRoutes.{routes_stay, route_is_new, route_put}
use Rattle.line_tables.proofs.KeptLine.{kept, kept_table, kept_named, none_kept, route_put_in, joined_with_routes}
use Rattle.line_tables.proofs.Labels.{signal_name, route_name, kept_name}
use Rattle.line_tables.proofs.line_tables.LineTables.put_route.Goals as goal

abbrev answer : Bool → Option Rule
answer twice = if twice then Some Twice else None

-- what refuses a route whose signals are there: one block twice, or nothing
told : (t : WholeTables) → IsJoined t → IsTable signal_name t.signals → IsTable (λ (b : Block). b.name) t.blocks → (x : Route) → rule_of_item (tables_of t) (item.Route x) ≡ None → (found : RouteSignals) → list_all (is_named (named signal_name) t.signals) x.signals ≡ true → AreSignalsOf t.signals x.signals found → rule_of_put (tables_of t) (item.Route x) ≡ answer found.twice
told t j signal_table block_table x itself found known are =
    refused_then (tables_of t) x itself
    ∙ refused_twice (tables_of t) (item.Route x) found.twice (route_known_by t x ∙ known) (repeats_as_found t j signal_table block_table x found are)

pub route_signals-requires : goal.route_signals-requires
route_signals-requires c = one_block (whole_tables c.self.inside) c.self.invariant

pub returns-in_default : goal.returns-in_default
returns-in_default c =
    let t = whole_tables c.self.inside in
    let x = c.args.route.now in
    let unknown : refers_to_known (tables_of t) (item.Route x) ≡ false = route_known_by t x ∙ sym c.in_ok-found.ensures.known ∙ ap is_some c.in_default.is in
    rw (← c.self.view_is) (refuses _ _ _ _ Unknown (refused_then (tables_of t) x (rw (← c.self.view_is) at c.requires) ∙ refused_unknown (tables_of t) (item.Route x) unknown) refl)

pub returns-then-found : goal.returns-then-found
returns-then-found c =
    let found = c.in_ok-found.ensures in
    let rule = told (whole_tables c.self.inside) c.self.invariant found.table c.learn_order.ensures c.args.route.now (rw (← c.self.view_is) at c.requires) c.in-Some.found (sym found.known ∙ ap is_some c.in-Some.is) (rw c.in-Some.is at found.found) in
    rw (← c.self.view_is) (refuses _ _ _ _ Twice (rule ∙ ap answer c.if-found.true) refl)

pub enter_route-requires : goal.enter_route-requires
enter_route-requires c =
    let found = c.in_ok-found.ensures in
    let rule = told (whole_tables c.self.inside) c.self.invariant found.table c.learn_order.ensures c.args.route.now (rw (← c.self.view_is) at c.requires) c.in-Some.found (sym found.known ∙ ap is_some c.in-Some.is) (rw c.in-Some.is at found.found) in
    sym (kept_named c.self.inside c.args.route.now.name) ∙ route_is_new (whole_tables c.self.inside) c.args.route.now (rule ∙ ap answer c.if-found.false)

pub invariant_of-self : goal.invariant_of-self
invariant_of-self c =
    let stayed = c.in_err-enter_route.ensures in
    rw stayed.kept (routes_stay (whole_tables c.self.inside) c.enter_route.new.uses c.enter_route.new.sets c.self.invariant stayed.kept_counts stayed.kept_signals stayed.kept_blocks)

pub invariant_of-self-2 : goal.invariant_of-self-2
invariant_of-self-2 c =
    let t = c.self.inside in
    let x = c.args.route.now in
    let key = c.in_ok-enter_route.field-0 in
    let done = c.in_ok-enter_route.ensures in
    let found = c.in_ok-found.ensures in
    let signals = c.in-Some.found in
    let are = rw c.in-Some.is at found.found in
    let rule = told (whole_tables t) c.self.invariant found.table c.learn_order.ensures x (rw (← c.self.view_is) at c.requires) signals (sym found.known ∙ ap is_some c.in-Some.is) are in
    rw done.put
    (joined_with_routes t (with_item (named kept_name) t.routes (key, kept x signals.keys)) (with_item (named route_name) (whole_tables t).routes (key, entry x signals.keys)) c.enter_route.new.uses c.enter_route.new.sets
    (route_put_in t x signals.keys found.table are.keyed key)
    (route_put (whole_tables t) key x signals.keys c.enter_route.new.uses c.self.invariant (kept_table t done.table) (rule ∙ ap answer c.if-found.false) are.keyed done.counted c.enter_route.new.sets (none_kept t key done.fresh) done.signals
    (put_at_images (block_of t.signals) signals.keys signals.blocks key t.route_sets.of_blocks c.enter_route.new.sets.of_blocks are.blocks done.blocks)))

pub returns : goal.returns
returns c =
    let t = whole_tables c.self.inside in
    let x = c.args.route.now in
    let found = c.in_ok-found.ensures in
    let signals = c.in-Some.found in
    let are = rw c.in-Some.is at found.found in
    let key = c.in_ok-enter_route.field-0 in
    let rule = told t c.self.invariant found.table c.learn_order.ensures x (rw (← c.self.view_is) at c.requires) signals (sym found.known ∙ ap is_some c.in-Some.is) are in
    rw (← c.self.view_is, c.in_ok-enter_route.ensures.put)
    (makes _ _ _ _ (rule ∙ ap answer c.if-found.false)
    (ap (λ l. tables_of (record t { routes = l })) (route_put_in c.self.inside x signals.keys found.table are.keyed key)
    ∙ ap (λ l. record (tables_of t) { routes = l }) (map-with_item (λ (e : ℕ × Linked _). e.1.item) (λ x. x.name) t.routes (key, entry x signals.keys))))
