use Rattle.std.proofs.Common.{◌≡◌, ℕ, ◌+◌, Some, ◌∙◌, refl, sym, ap, arith}
use Rattle.rail_model.specs.declared.items.Route.{Route}
use Rattle.rail_model.specs.Name.{is_same}
use Rattle.rail_model.specs.Rules.{without}
use Rattle.line_tables.specs.declared.linked.Linked.{Linked}
use Rattle.line_tables.specs.Table.{named, item_of}
use Rattle.line_tables.specs.KeyCounts.{count_of, times}
use Rattle.line_tables.specs.KeptRoutes.{with_names}
use Rattle.line_tables.specs.Inside.{whole_tables, tables_of}
use Rattle.line_tables.proofs.Views.{map-without}
use Rattle.line_tables.proofs.Found.{found_by_key}
use Rattle.line_tables.proofs.Moves.{one_block, listed_keys}
use Rattle.line_tables.proofs.Known.{refs_of_found}
use Rattle.line_tables.proofs.JoinedRoutes.{route_is_there, route_drop}
use Rattle.line_tables.proofs.KeptRoutes.{item_with_names, drop_with_names}
use Rattle.line_tables.proofs.KeptLine.{kept_table, kept_key, kept_under, kept_named, kept_references, of_kept, joined_with_routes}
use Rattle.line_tables.proofs.Labels.{route_name, kept_name}
use Rattle.line_tables.proofs.line_tables.LineTables.remove_route.Goals as goal

pub unwrap-key-requires : goal.unwrap-key-requires
unwrap-key-requires c = c.key_of.ensures.there ∙ sym (kept_named c.self.inside c.args.name.now) ∙ route_is_there (whole_tables c.self.inside) c.args.name.now (rw (← c.self.view_is) at c.requires)

pub get-requires : goal.get-requires
get-requires c =
    let found = found_by_key kept_name c.self.inside.routes c.args.name.now c.unwrap-key.result c.key_of.ensures.table (sym c.key_of.ensures.key ∙ c.unwrap-key.ensures) in
    rw found.1.under refl

pub take-requires-clause-there : goal.take-requires-clause-there
take-requires-clause-there c =
    rw c.slice-refs.ensures (listed_keys (whole_tables c.self.inside) c.self.invariant c.learn_order.ensures c.unwrap-key.result (with_names c.self.inside.signals c.get.result.now) (kept_under c.self.inside c.unwrap-key.result c.get.result.now c.get.ensures.item))

pub take-requires-clause-one : goal.take-requires-clause-one
take-requires-clause-one c = one_block (whole_tables c.self.inside) c.self.invariant

pub take_linked-requires-clause-there : goal.take_linked-requires-clause-there
take_linked-requires-clause-there c =
    sym (kept_named c.self.inside c.args.name.now) ∙ route_is_there (whole_tables c.self.inside) c.args.name.now (rw (← c.self.view_is) at c.requires)

pub take_linked-requires-clause-counted_before : goal.take_linked-requires-clause-counted_before
take_linked-requires-clause-counted_before c e k h =
    let t = c.self.inside in
    omega (arith, c.self.invariant.signal_uses k, kept_references t k, refs_of_found (λ u. is_same u.1.item.name c.args.name.now) t.routes e k h)

pub invariant_of-self : goal.invariant_of-self
invariant_of-self c =
    let t = c.self.inside in
    let name = c.args.name.now in
    let key = c.unwrap-key.result in
    let done = c.take_linked.ensures in
    let before = c.get.result.now in
    let new = c.take_linked.new in
    let counted = λ (e : Linked Route) (k : ℕ) (h : item_of route_name (whole_tables t).routes name ≡ Some e). of_kept t (item_of route_name (whole_tables t).routes name) (item_of kept_name t.routes name) (item_with_names t.signals t.routes name) (λ (e : Linked Route). count_of new.uses k + times k e.refs ≡ count_of t.signal_uses k) (λ was here. done.counted was k here) e h in
    rw done.rest
    (joined_with_routes t (without (named kept_name) t.routes name) (without (named route_name) (whole_tables t).routes name) new.uses c.take.new.self (drop_with_names t.signals t.routes name)
    (route_drop (whole_tables t) name new.uses c.self.invariant (kept_table t done.table) (rw (← c.self.view_is) at c.requires) counted key (with_names t.signals before) c.take.new.self (kept_key t name ∙ sym c.key_of.ensures.key ∙ c.unwrap-key.ensures) (kept_under t key before c.get.ensures.item) (rw c.slice-refs.ensures at c.take.ensures.signals) (rw c.slice-refs.ensures at c.take.ensures.blocks)))

pub returns : goal.returns
returns c =
    let t = whole_tables c.self.inside in
    rw (← c.self.view_is, c.take_linked.ensures.rest)
    (ap (λ l. tables_of (record t { routes = l })) (drop_with_names t.signals c.self.inside.routes c.args.name.now)
    ∙ ap (λ l. record (tables_of t) { routes = l }) (map-without (λ (e : ℕ × Linked _). e.1.item) (λ x. x.name) t.routes c.args.name.now))
