use Rattle.std.proofs.Common.{◌≡◌, rules, [], ◌∷◌, ◌++◌, sym, ap, ◌∙◌, arith}
use Rattle.std.proofs.lemmas.List.FromFn.{map-range_with_len_more}
use Rattle.headway_table.specs.Numbers.{headways_of, headway_by}
use Rattle.headway_table.proofs.row.headways_of.Goals as goal

pub loop-j-preserved : goal.loop-j-preserved
loop-j-preserved c =
    let greatest = c.args.greatest.now in
    let i = c.args.i in
    let j = c.loop-j.j in
    let pushed : c.push.new.self ≡ c.loop-j.row ++ c.headway_to.result ∷ [] = c.in_ok-push.ensures.ok in
    let is : c.headway_to.result ≡ headway_by greatest i j = search rules in
    pushed
    ∙ ap (λ r. r ++ c.headway_to.result ∷ []) c.loop-j.invariant
    ∙ ap (λ o. headways_of greatest i j ++ o ∷ []) is
    ∙ sym (map-range_with_len_more (headway_by greatest i) 0 j j (omega arith))
