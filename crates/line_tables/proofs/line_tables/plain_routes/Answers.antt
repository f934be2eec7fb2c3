use Rattle.std.proofs.Common.{ℕ, All, map, sym, ap, ◌∙◌, subst, arith}
use Rattle.std.proofs.lemmas.List.{take_all}
use Rattle.std.proofs.lemmas.Simd.{map-map}
use Rattle.rail_model.specs.declared.items.Route.{Route}
use Rattle.line_tables.specs.declared.linked.Linked.{Linked}
use Rattle.line_tables.specs.declared.kept_route.KeptRoute.{KeptRoute}
use Rattle.line_tables.specs.Links.{IsKey}
use Rattle.line_tables.specs.KeptRoutes.{route_of, with_names}
use Rattle.line_tables.proofs.RunPaths.{images_more, all_at}
use Rattle.line_tables.proofs.line_tables.plain_routes.Goals as goal

pub plain_route-requires : goal.plain_route-requires
plain_route-requires c =
    let e = c.nth.result.now in
    let one = all_at (λ u. All (IsKey c.args.signals.now) u.1.refs) c.args.table.now c.loop-number.number e c.nth.ensures.item c.requires in
    subst (λ (e : Linked KeptRoute). All (IsKey c.args.signals.now) e.refs) one.1 one.2

pub loop-number-preserved : goal.loop-number-preserved
loop-number-preserved c =
    rw c.in_ok-push.ensures.ok
    (images_more (route_of c.args.signals.now) c.args.table.now c.loop-number.number c.nth.result.now c.loop-number.items c.in_ok-plain_route.field-0 c.nth.ensures.item c.loop-number.invariant c.in_ok-plain_route.ensures)

pub returns : goal.returns
returns c =
    let signals = c.args.signals.now in
    let table = c.args.table.now in
    let all = take_all c.loop-number.number table (omega (arith, c.loop-number-test.false, c.len-number-end.ensures)) in
    c.loop-number.invariant ∙ ap (map (λ e. route_of signals e.1)) all
    ∙ sym (map-map (λ (e : ℕ × Linked Route). e.1.item) (λ (u : ℕ × Linked KeptRoute). (u.0, with_names signals u.1)) table)
