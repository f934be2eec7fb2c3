use Rattle.std.proofs.Common.{◌<◌, List, ℕ, sym, subst, ◌∙◌}
use Rattle.std.specs.Prelude.{All}
use Rattle.plan_model.specs.Members.{place_count}
use Rattle.std.specs.List.{range_with_len}
use Rattle.train_net.proofs.Ended.{all_below}
use Rattle.train_net.proofs.ends.last_users.Goals as goal

pub nearest_before-requires-clause-wanted : goal.nearest_before-requires-clause-wanted
nearest_before-requires-clause-wanted c =
    let cut = c.args.cut.now in
    let places = c.deref.ensures.value ∙ c.in_ok-places.ensures in
    subst (λ (ps : List ℕ). All (λ p. p < place_count cut) ps) (sym places)
    (subst (λ n. All (λ p. p < place_count cut) (range_with_len 0 n)) (sym c.place_count.ensures) (all_below (place_count cut)))
