use Rattle.std.proofs.Common.{◌++◌, [], ◌∷◌, List, ℕ, map, sym, ap, ◌∙◌}
use Rattle.std.proofs.lemmas.List.{map-append}
use Rattle.train_net.specs.declared.reordered.Stand.{Stand}
use Rattle.train_net.proofs.Ended.{range_more}
use Rattle.train_net.proofs.reordered.stands.Goals as goal

pub loop-member-preserved : goal.loop-member-preserved
loop-member-preserved c =
    let F : Stand → ℕ = λ s. s.member in
    let m = c.loop-member.member in
    ap (map F) c.in_ok-push.ensures.items
    ∙ map-append F c.loop-member.stands.items _
    ∙ ap (λ (ms : List ℕ). ms ++ m ∷ []) c.loop-member.invariant
    ∙ sym (range_more m)
