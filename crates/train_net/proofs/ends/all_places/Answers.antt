use Rattle.std.proofs.Common.{◌++◌, [], ◌∷◌, List, ℕ, sym, ap, ◌∙◌}
use Rattle.train_net.proofs.Ended.{range_more}
use Rattle.train_net.proofs.ends.all_places.Goals as goal

pub loop-place-preserved : goal.loop-place-preserved
loop-place-preserved c =
    let i = c.loop-place.place in
    c.in_ok-push.ensures.items ∙ ap (λ (ps : List ℕ). ps ++ i ∷ []) c.loop-place.invariant ∙ sym (range_more i)
