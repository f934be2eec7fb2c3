use Rattle.std.proofs.Common.{◌++◌, ◌∷◌, [], map, rules, sym, ap, ◌∙◌, arith}
use Rattle.std.specs.List.{range_with_len}
use Rattle.std.proofs.lemmas.List.{get_or_default}
use Rattle.std.proofs.lemmas.List.FromFn.{map-range_with_len_more}
use Rattle.rail_model.specs.declared.stair.Stair.{Stair}
use Rattle.std.proofs.lemmas.Fn.{always_returns_same}
use Rattle.rail_model.specs.Conflict.{no_stair}
use Rattle.conflict_finder.specs.Runs.{ranked_at}
use Rattle.conflict_finder.proofs.ranked.by_name.Goals as goal

pub loop-i-preserved : goal.loop-i-preserved
loop-i-preserved c =
    let stairs = c.args.stairs.now in
    let i = c.loop-i.i in
    let stair = c.index-stairs-i.result in
    let read = ap (λ (s : Stair). s.run) (c.index-stairs-i.is ∙ get_or_default stairs i stair no_stair c.loop-i-test.true) in
    c.in_ok-push.ensures.items
    ∙ ap (λ runs. runs ++ record { name = stair.run; stair = i } ∷ []) c.loop-i.invariant
    ∙ ap (λ name. map (ranked_at stairs) (range_with_len 0 i) ++ record { name = name; stair = i } ∷ []) read
    ∙ sym (map-range_with_len_more (ranked_at stairs) 0 i i (omega arith))

pub returns-clause-order : goal.returns-clause-order
returns-clause-order c = c.sort_unstable_by_key.ensures.sorted (λ r. r.name) (always_returns_same _ _ _ (λ a r q k. search rules))
