-- Where a train is touched, there is a first train by name that touches it, and a first place.
use Rattle.std.proofs.Common.{◌≡◌, ℕ, ◌<◌, Bool, true, List, [], refl, ap, ◌∙◌, arith}
use Rattle.std.specs.Prelude.{ℤ, Option, Some, None, filter, fold, option_map, option_and_then}
use Rattle.std.specs.List.{list_any}
use Rattle.plan_model.specs.declared.cut.Cut.{Cut}
use Rattle.plan_model.specs.declared.answer.Tie.TheVariants.{After}
use Rattle.plan_model.specs.Members.{places, place_count, first_by_name, first_with, AnswersFirst, member_count, members}
use Rattle.plan_model.specs.Cut.{IsSoundCut}
use Rattle.plan_model.specs.Schedule.{touches, touch, touching_place}
use Rattle.plan_model.proofs.MemberTests.{has, has-range, has_any, has-filter, filter-has, in_range}
use Rattle.plan_model.proofs.FirstWith.{is_first}
use Rattle.plan_model.proofs.TrueRing.{looked_at}
use Rattle.train_order.proofs.Find.{find_some}

is_some : (cut : Cut) (some : List ℕ) (i : ℕ) (best : Option ℕ) → has some i ≡ true → AnswersFirst cut some best
    → (b : ℕ) × (best ≡ Some b)
is_some cut some i None h none = absurd (let gone = ap (λ ps. has ps i) none in cc)
is_some cut some i (Some b) h first = (b, refl)

first_there : (cut : Cut) → IsSoundCut cut → (some : List ℕ) (i : ℕ) → has some i ≡ true
    → ((c : ℕ) → has some c ≡ true → c < place_count cut) → (b : ℕ) × (first_by_name cut some ≡ Some b)
first_there cut sound some i h there =
    let best = fold (first_with cut) None some in
    let first = looked_at cut [] some None refl in
    let b = is_some cut some i best h first in
    (b.0, is_first cut sound some best there first ∙ b.1)

-- a train that is touched has a touch
module _ (cut : Cut) (entries : List ℤ) (sound : IsSoundCut cut) (j : ℕ) where
  place_of : (i : ℕ) → list_any (touches cut entries i j) (places cut) ≡ true
      → (b : ℕ) × (touching_place cut entries i j ≡ Some b)
  place_of i t =
      let test = touches cut entries i j in
      let at = find_some test (places cut) t in
      first_there cut sound (filter test (places cut)) at.0 (has-filter test (places cut) at.0 at.2 at.3)
      (λ c h. omega (arith, in_range 0 (place_count cut) c (filter-has test (places cut) c h).0))

  pub touched : (i : ℕ) → i < member_count cut → list_any (touches cut entries i j) (places cut) ≡ true
      → (k : ℕ) × (b : ℕ) × (touch cut entries j ≡ Some (After k b))
  touched i l t =
      let test : ℕ → Bool = λ k. list_any (touches cut entries k j) (places cut) in
      let k = find_some test (members cut) (has_any test (members cut) i (has-range (member_count cut) i l) t) in
      let b = place_of k.0 k.3 in (
        k.0,
        b.0,
        ap (option_and_then (λ m. option_map (After m) (touching_place cut entries m j))) k.1
            ∙ ap (option_map (After k.0)) b.1,
      )
