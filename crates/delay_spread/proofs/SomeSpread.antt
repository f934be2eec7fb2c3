-- Delays are spread over each sound cut whose members have an order, and each other has a disorder.
use Rattle.std.proofs.Common.{◌≡◌, ℕ, List, [], ◌∷◌, refl}
use Rattle.std.specs.Prelude.{Option, None, Some, Result, Ok, Err}
use Rattle.plan_model.specs.declared.cut.Cut.{Cut}
use Rattle.plan_model.specs.declared.answer.Disorder.{Disorder}
use Rattle.plan_model.specs.declared.answer.Disorder.TheVariants as disorder
use Rattle.plan_model.specs.Cut.{IsSoundCut}
use Rattle.plan_model.specs.Disorder.{Opposite, opposite, remaining, ring}
use Rattle.delay_spread.specs.declared.found.Spread.{Spread}
use Rattle.delay_spread.specs.Spreading.{delayed_floor, spread_by, IsSpreading}
use Rattle.delay_spread.specs.Laws.{SpreadIsThere, SpreadingIsThere}
use Rattle.compression.proofs.SomeLeast.{least_is_there}

pub spread_is_there : SpreadIsThere
spread_is_there cut delays sound none =
    let (entries, least) = least_is_there cut (delayed_floor cut delays) sound none in
    (spread_by cut delays entries, (entries, least, refl))

module _ (cut : Cut) (delays : List ℕ) (sound : IsSoundCut cut) where
  without_opposite : opposite cut ≡ None → (left : List ℕ) → remaining cut ≡ left
      → (answer : Result Spread Disorder) × IsSpreading cut delays answer
  without_opposite alike [] none =
      let spread = spread_is_there cut delays sound none in (Ok spread.0, (alike, none, spread.1))
  without_opposite alike (k ∷ left) some = (Err (disorder.Ring (ring cut)), (alike, (λ none. cc), refl))

  by_opposite : (o : Option Opposite) → opposite cut ≡ o → (answer : Result Spread Disorder) × IsSpreading cut delays answer
  by_opposite None alike = without_opposite alike (remaining cut) refl
  by_opposite (Some o) is = (Err (disorder.Opposite o.first o.second o.block1 o.block2), is)

pub spreading_is_there : SpreadingIsThere
spreading_is_there cut delays sound = by_opposite cut delays sound (opposite cut) refl
