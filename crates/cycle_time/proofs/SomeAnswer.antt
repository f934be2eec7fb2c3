-- A sound cut has a cycle or a disorder.
use Rattle.std.proofs.Common.{◌≡◌, List, [], ◌∷◌, ℕ, refl}
use Rattle.std.specs.Prelude.{Option, None, Some, Result, Ok, Err}
use Rattle.plan_model.specs.declared.cut.Cut.{Cut}
use Rattle.plan_model.specs.declared.answer.Disorder.{Disorder}
use Rattle.plan_model.specs.declared.answer.Disorder.TheVariants as disorder
use Rattle.plan_model.specs.Cut.{IsSoundCut}
use Rattle.plan_model.specs.Disorder.{Opposite, opposite, remaining, ring}
use Rattle.cycle_time.specs.declared.found.Cycle.{Cycle}
use Rattle.cycle_time.specs.Cycle.{IsAnswered}
use Rattle.cycle_time.specs.Laws.{AnswerIsThere}
use Rattle.cycle_time.proofs.SomeCycle.{cycle_is_there}

module _ (cut : Cut) (sound : IsSoundCut cut) where
  abbrev Answer : Type 0
  Answer = (answer : Result Cycle Disorder) × IsAnswered cut answer

  by_remaining : opposite cut ≡ None → (left : List ℕ) → remaining cut ≡ left → Answer
  by_remaining alike [] none = let (cycle, is) = cycle_is_there cut sound alike none in (Ok cycle, is)
  by_remaining alike (k ∷ left) some = (Err (disorder.Ring (ring cut)), (alike, (λ none. cc), refl))

  by_opposite : (o : Option Opposite) → opposite cut ≡ o → Answer
  by_opposite None alike = by_remaining alike (remaining cut) refl
  by_opposite (Some o) is = (Err (disorder.Opposite o.first o.second o.block1 o.block2), is)

pub answer_is_there : AnswerIsThere
answer_is_there cut sound = by_opposite cut sound (opposite cut) refl
