use Rattle.std.proofs.Common.{◌<◌, List, map, sym, ap, subst, ◌∙◌}
use Rattle.std.specs.Prelude.{All}
use Rattle.std.proofs.lemmas.Result.{IfOk-weaker}
use Rattle.rail_model.specs.declared.stair.Use.{Use}
use Rattle.plan_model.specs.declared.cut.CutRow.{CutRow}
use Rattle.plan_model.specs.Members.{place_count}
use Rattle.train_net.specs.Near.{AreNear, AreNearAt}
use Rattle.train_net.proofs.Used.{places_below, near_at}
use Rattle.train_net.proofs.near.near_at.Goals as goal

pub nearest_before-requires-clause-wanted : goal.nearest_before-requires-clause-wanted
nearest_before-requires-clause-wanted c =
    let n = place_count c.args.cut.now in
    subst (All (λ p. p < n)) (sym (c.deref.ensures.value ∙ c.in_ok-places.ensures))
    (subst (λ (us : List Use). All (λ p. p < n) (map (λ u. u.block) us)) (sym c.slice.ensures)
    (places_below c.row.result.now.uses n c.row.ensures.usable.there))

pub returns-clause-near : goal.returns-clause-near
returns-clause-near c =
    let cut = c.args.cut.now in
    let order = c.args.order.now in
    let at = c.args.at in
    let places = c.deref.result.now in
    let uses = c.slice.ensures ∙ ap (λ (r : CutRow). r.uses) c.row.ensures.row in
    let are = c.deref.ensures.value ∙ c.in_ok-places.ensures ∙ ap (λ (us : List Use). map (λ u. u.block) us) uses in
    IfOk-weaker c.nearest_before.result (λ near. AreNear cut order at places near.items) (λ near. AreNearAt cut order at near.items)
    (λ near is. near_at cut order at near.items places are is) c.nearest_before.ensures.near
