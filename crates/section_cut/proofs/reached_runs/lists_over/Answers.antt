use Rattle.std.proofs.Common.{◌≡◌, None, [], ◌∷◌, ◌++◌, map, get_or, take, sym, ap, ◌∙◌, subst, arith}
use Rattle.std.proofs.lemmas.List.{map_more, take_all, get_or_default}
use Rattle.section_cut.specs.ReachedRuns.{uses_if_there}
use Rattle.section_cut.specs.Spans.{AreOver}
use Rattle.section_cut.proofs.reached_runs.lists_over.Goals as goal

pub loop-stair-preserved : goal.loop-stair-preserved
loop-stair-preserved c =
    let all = c.args.stairs.now in
    let n = c.loop-stair.stair-index in
    let uses : c.uses_if_there.result.now ≡ uses_if_there (get_or all n None) =
    c.uses_if_there.ensures ∙ ap uses_if_there (c.stair-item.is ∙ get_or_default all n c.stair-item.result None c.loop-stair-test.true) in
    subst (λ us. AreOver us c.add.new.self)
    (ap (λ us. map uses_if_there (take n all) ++ us ∷ []) uses ∙ sym (map_more uses_if_there all n None c.loop-stair-test.true))
    (c.in_ok-add.ensures (map uses_if_there (take n all)) c.loop-stair.invariant)

pub returns : goal.returns
returns c =
    subst (λ all. AreOver (map uses_if_there all) c.loop-stair.over) (take_all c.loop-stair.stair-index c.args.stairs.now (omega (arith, c.loop-stair-test.false)))
    c.loop-stair.invariant
