use Rattle.std.proofs.Common.{◌≡◌, ◌<◌, [], ◌∷◌, ◌++◌, length, map, get_or, take, sym, ap, ◌∙◌, arith}
use Rattle.std.proofs.lemmas.List.{map_more, take_more, take_all}
use Rattle.rail_model.specs.declared.stair.Use.{Use}
use Rattle.plan_model.specs.Members.{no_use}
use Rattle.section_cut.proofs.spans.is_over.Goals as goal

pub loop-place-preserved : goal.loop-place-preserved
loop-place-preserved c =
    let uses = c.args.uses.now in
    let list = c.args.list.now in
    let n = c.loop-place.place in
    let block = λ (u : Use). u.block in
    let below : n < length list = omega (arith, c.loop-place-test.true) in
    let same : block (get_or uses n no_use) ≡ get_or list n 0 = omega arith in
    map_more block uses n no_use (omega (arith, below, c.if-uses-list.false))
    ∙ ap (λ bs. bs ++ block (get_or uses n no_use) ∷ []) c.loop-place.invariant
    ∙ ap (λ b. take n list ++ b ∷ []) same
    ∙ sym (take_more list n 0 below)

pub returns : goal.returns
returns c _ =
    let uses = c.args.uses.now in
    let list = c.args.list.now in
    let n = c.loop-place.place in
    sym (take_all n list (omega (arith, c.loop-place-test.false))) ∙ sym c.loop-place.invariant
    ∙ ap (map (λ (u : Use). u.block)) (take_all n uses (omega (arith, c.loop-place-test.false, c.if-uses-list.false)))
