use Rattle.std.proofs.Common.{◌≡◌, sym, ap, ◌∙◌, refl, get_or}
use Rattle.rail_model.specs.declared.items.Signal.{Signal}
use Rattle.rail_model.specs.Tables.{route_named}
use Rattle.line_tables.specs.declared.linked.Linked.{Linked}
use Rattle.line_tables.specs.KeptRoutes.{with_names}
use Rattle.line_tables.specs.Inside.{whole_tables, tables_of}
use Rattle.line_tables.proofs.Found.{found_by_key}
use Rattle.line_tables.proofs.Meets.{only_key, all_keys}
use Rattle.line_tables.proofs.TimedHops.{route_hops}
use Rattle.line_tables.proofs.RunPaths.{same_path, fitting_path, numbered_path, run_is, run_stands, route_key, route_is, hops_are, linked_under}
use Rattle.line_tables.proofs.KeptLine.{kept_table, kept_key, kept_under}
use Rattle.line_tables.proofs.Labels.{kept_name}
use Rattle.line_tables.proofs.line_tables.LineTables.path.Goals as goal

pub get-route-requires : goal.get-route-requires
get-route-requires c =
    let t = whole_tables c.self.inside in
    let e = c.nth-entry.result.now in
    let key = only_key _ e.refs (route_key t c.self.invariant c.args.run e c.nth-entry.ensures.item) in
    let found = found_by_key kept_name c.self.inside.routes e.item.route (get_or e.refs 0 0) c.learn_order-2.ensures (sym (kept_key c.self.inside e.item.route) ∙ key) in
    rw (c.slice.ensures, found.1.under) refl

pub untimed_hops-requires-clause-there : goal.untimed_hops-requires-clause-there
untimed_hops-requires-clause-there c =
    let t = whole_tables c.self.inside in
    rw c.slice-keys.ensures
    (all_keys (λ (e : Linked Signal). e.item.name) t.signals c.learn_order.ensures _ _ (linked_under t c.self.invariant _ (with_names t.signals c.get-route.result.now) (kept_under c.self.inside _ c.get-route.result.now c.get-route.ensures.item)))

-- the hops are those of the run's route
right : (c : goal.After-drop-numbers-2) → c.in_ok-hops.hops ≡ route_hops (tables_of (whole_tables c.self.inside)) (route_named (tables_of (whole_tables c.self.inside)) c.nth-entry.result.now.item.route)
right c =
    let t = whole_tables c.self.inside in
    let e = c.nth-entry.result.now in
    let r = with_names t.signals c.get-route.result.now in
    let here = kept_under c.self.inside _ c.get-route.result.now c.get-route.ensures.item in
    let linked = linked_under t c.self.invariant _ r here in
    let named = route_is t c.self.invariant c.args.run e r (kept_table c.self.inside c.learn_order-2.ensures) c.nth-entry.ensures.item (rw c.slice.ensures at here) in
    (rw c.slice-keys.ensures at c.in_ok-hops.ensures) ∙ hops_are t c.self.invariant r c.learn_order.ensures linked ∙ ap (route_hops (tables_of t)) (sym named)

pub returns-clause-same : goal.returns-clause-same
returns-clause-same c =
    let t = whole_tables c.self.inside in
    let e = c.nth-entry.result.now in
    rw (← c.self.view_is, run_is t c.self.invariant c.args.run e c.nth-entry.ensures.item)
    (same_path (tables_of t) c.self.invariant.sound e.item (run_stands t c.self.invariant c.args.run e c.nth-entry.ensures.item) c.in_ok-hops.hops (right c) c.path_over.result (rw c.slice-2.ensures at c.path_over.ensures))

pub returns-clause-fits : goal.returns-clause-fits
returns-clause-fits c =
    let t = whole_tables c.self.inside in
    let e = c.nth-entry.result.now in
    fitting_path (tables_of t) c.self.invariant.sound e.item (run_stands t c.self.invariant c.args.run e c.nth-entry.ensures.item) c.in_ok-hops.hops (right c) c.path_over.result (rw c.slice-2.ensures at c.path_over.ensures)

pub returns-clause-numbered : goal.returns-clause-numbered
returns-clause-numbered c =
    let t = whole_tables c.self.inside in
    let e = c.nth-entry.result.now in
    rw (← c.self.view_is)
    (numbered_path (tables_of t) c.self.invariant.sound e.item (run_stands t c.self.invariant c.args.run e c.nth-entry.ensures.item) c.in_ok-hops.hops (right c) c.path_over.result (rw c.slice-2.ensures at c.path_over.ensures))
