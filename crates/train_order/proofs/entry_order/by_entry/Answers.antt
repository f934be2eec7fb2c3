use Rattle.std.proofs.Common.{◌≡◌, ℕ, map, sym, ap, subst, ◌∙◌}
use Rattle.std.specs.List.Sorted.{IsPermutation}
use Rattle.std.proofs.lemmas.List.Sorted.{IsPermutation-map}
use Rattle.std.proofs.lemmas.Result.{IfOk-weaker}
use Rattle.plan_model.specs.Members.{members}
use Rattle.train_order.specs.declared.entry_order.Moment.{Moment}
use Rattle.train_order.proofs.entry_order.by_entry.Goals as goal

pub returns : goal.returns
returns c =
    let by : Moment → ℕ = λ m. m.member in
    let sorted = c.sort_unstable_by_key.new.self.items in
    let same : IsPermutation (members c.args.cut.now) (map by sorted) =
    subst (λ is. IsPermutation is (map by sorted)) c.in_ok-entries.ensures
    (IsPermutation-map by c.in_ok-entries.entries.items sorted c.sort_unstable_by_key.ensures.permutation) in
    IfOk-weaker c.members_of.result (λ members. members.items ≡ map by c.deref.result.now)
    (λ positions. IsPermutation (members c.args.cut.now) positions.items)
    (λ positions is. subst (λ is. IsPermutation (members c.args.cut.now) is) (sym (is ∙ ap (map by) c.deref.ensures.value)) same)
    c.members_of.ensures
