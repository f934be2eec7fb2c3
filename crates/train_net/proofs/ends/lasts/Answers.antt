use Rattle.std.proofs.Common.{◌++◌, [], ◌∷◌, List, map, take, get_or, sym, ap, ◌∙◌}
use Rattle.std.specs.Prelude.{None, Option}
use Rattle.std.specs.Option.{option_map}
use Rattle.std.proofs.lemmas.List.{take_more, map-append}
use Rattle.train_placing.specs.declared.last.Last.{Last}
use Rattle.train_net.specs.Reading.{last_by}
use Rattle.train_net.proofs.ends.lasts.Goals as goal

pub loop-one-preserved : goal.loop-one-preserved
loop-one-preserved c =
    let near = c.args.near.now in
    let k = c.loop-one.one-index in
    let F = option_map (last_by c.args.cut.now c.args.entries.now) in
    let o = get_or near k None in
    c.in_ok-push.ensures.items
    ∙ ap (λ (ls : List (Option Last)). ls ++ c.last_of.result ∷ []) c.loop-one.invariant
    ∙ ap (λ (l : Option Last). map F (take k near) ++ l ∷ []) c.last_of.ensures
    ∙ sym (ap (map F) (take_more near k None c.loop-one-test.true) ∙ map-append F (take k near) (o ∷ []))
