-- Each sound cut has an answer.
use Rattle.std.proofs.Common.{◌≡◌, ◌≤◌, List, [], ◌∷◌, ℕ, inl, inr, refl}
use Rattle.std.specs.Prelude.{Option, None, Some}
use Rattle.std.proofs.lemmas.Bool.{cases_lt}
use Rattle.plan_model.specs.declared.limits.TheConstants.{MEMBERS}
use Rattle.plan_model.specs.declared.cut.Cut.{Cut}
use Rattle.plan_model.specs.declared.answer.Answer.{Answer}
use Rattle.plan_model.specs.declared.answer.Answer.TheVariants as answer
use Rattle.plan_model.specs.Members.{member_count}
use Rattle.plan_model.specs.Cut.{IsSoundCut}
use Rattle.plan_model.specs.Disorder.{Opposite, opposite, remaining, ring}
use Rattle.plan_model.specs.Schedule.{window_floor}
use Rattle.plan_model.specs.Answer.{plan_of, IsAnswer}
use Rattle.compression.specs.Laws.{AnswerIsThere}
use Rattle.compression.proofs.SomeLeast.{least_is_there}

module _ (cut : Cut) (sound : IsSoundCut cut) (few : member_count cut ≤ MEMBERS) where
  without_opposite : opposite cut ≡ None → (left : List ℕ) → remaining cut ≡ left → (a : Answer) × IsAnswer cut a
  without_opposite alike [] none =
      let least = least_is_there cut (window_floor cut) sound none in
      (answer.Ordered (plan_of cut least.0), (few, alike, none, (least.0, least.1, refl)))
  without_opposite alike (k ∷ left) some =
      (answer.Ring (ring cut), (few, alike, (λ none. cc), refl))

  with_few : (o : Option Opposite) → opposite cut ≡ o → (a : Answer) × IsAnswer cut a
  with_few None alike = without_opposite alike (remaining cut) refl
  with_few (Some o) is = (answer.Opposite o.first o.second o.block1 o.block2, (few, is))

pub answer_is_there : AnswerIsThere
answer_is_there cut sound =
    elim (cases_lt MEMBERS (member_count cut)) [
      | inl many ↦ (answer.Crowded (member_count cut), (many, refl))
      | inr few ↦ with_few cut sound few (opposite cut) refl
    ]
