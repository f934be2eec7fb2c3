-- Members have an order where none of them remains.
use Rattle.std.proofs.Common.{◌≡◌, ℕ, true, List, [], ◌∷◌, refl, subst}
use Rattle.std.proofs.lemmas.Bool.{eq-eqb}
use Rattle.plan_model.specs.declared.cut.Cut.{Cut}
use Rattle.plan_model.specs.Disorder.{remaining, predecessor, ArePrecededAmong}
use Rattle.plan_model.specs.Laws.{OrderIsNoneRemains}
use Rattle.plan_model.proofs.MemberTests.{has}
use Rattle.plan_model.proofs.Preceded.{preceded_remain}
use Rattle.plan_model.proofs.TrueRing.{remains_there, predecessor_is}

-- each member that remains is preceded by one that remains
remaining_preceded : (cut : Cut) → ArePrecededAmong cut (remaining cut)
remaining_preceded cut j h =
    let by = predecessor_is cut j h in
    record { there = remains_there cut j h; member = predecessor cut j; among = by.0; precedes = by.1 }

-- where none remains, none of some members do
none_among : (some left : List ℕ) → ((j : ℕ) → has some j ≡ true → has left j ≡ true) → left ≡ [] → some ≡ []
none_among [] left all none = refl
none_among (k ∷ some) left all none =
    let among : has [] k ≡ true = subst (λ ks. has ks k ≡ true) none (all k (rw (eq-eqb k k refl) refl)) in absurd (cc)

pub order_is_none_remains : OrderIsNoneRemains
order_is_none_remains cut = (
  λ ordered. ordered (remaining cut) (remaining_preceded cut),
  λ none some each. none_among some (remaining cut) (preceded_remain cut some each) none,
)
