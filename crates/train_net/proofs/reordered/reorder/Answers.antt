use Rattle.std.proofs.Common.{ℕ, map, sym, ap, subst, ◌∙◌}
use Rattle.std.specs.List.Sorted.{IsPermutation}
use Rattle.std.proofs.lemmas.List.Sorted.{IsPermutation-map}
use Rattle.plan_model.specs.Members.{members}
use Rattle.train_net.specs.declared.reordered.Stand.{Stand}
use Rattle.train_net.proofs.reordered.reorder.Goals as goal

pub returns-clause-once : goal.returns-clause-once
returns-clause-once c =
    let F : Stand → ℕ = λ s. s.member in
    let stands = c.in_ok-stands.stands.items in
    let sorted = c.sort_unstable_by_key.new.self.items in
    subst (IsPermutation (members c.args.cut.now)) (sym (c.in_ok-order.ensures ∙ ap (map F) c.deref.ensures.value))
    (subst (λ ms. IsPermutation ms (map F sorted)) c.in_ok-stands.ensures
    (IsPermutation-map F stands sorted c.sort_unstable_by_key.ensures.permutation))
