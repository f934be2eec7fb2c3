-- What a cycle shows is enough to write its rows.
use Rattle.std.proofs.Common.{◌≡◌, ℕ, zero, suc, List, [], ◌∷◌, length, refl, sym, ap, ◌∙◌, inl, inr, arith, length-append}
use Rattle.std.specs.Prelude.{All}
use Rattle.std.proofs.lemmas.Bool.{cases_Bool, and_parts}
use Rattle.plan_model.specs.declared.cut.Cut.{Cut}
use Rattle.plan_model.specs.Members.{member_count}
use Rattle.plan_model.specs.Cut.{IsSoundCut}
use Rattle.plan_model.proofs.Uses.{place_there}
use Rattle.cycle_time.specs.declared.found.Step.{Step}
use Rattle.cycle_time.specs.declared.found.Cycle.{Cycle}
use Rattle.cycle_time.specs.Cycle.{IsStep, Leads, first_train, IsShown, IsShownOf, IsStepWithin}

module _ (cut : Cut) (sound : IsSoundCut cut) where
  step_within : (s : Step) → IsStep cut s → IsStepWithin cut s
  step_within s is = record {
    one = is.one_there;
    other = is.other_there;
    place = elim (cases_Bool s.next) [
      | inl e ↦ omega (arith, (is.next e).block_there, length-append cut.section.blocks cut.connections)
      | inr e ↦ place_there cut sound s.from s.block is.one_there ((and_parts _ _ ((and_parts _ _ (is.same e)).0)).0)
    ];
  }

  steps_within : (i : ℕ) (steps : List Step) (j : ℕ) → Leads cut i steps j → All (IsStepWithin cut) steps
  steps_within i [] j leads k d l = absurd (omega (arith, l))
  steps_within i (s ∷ steps) j leads zero d l = step_within s leads.0
  steps_within i (s ∷ steps) j leads (suc k) d l = steps_within s.to steps j leads.2 k d (omega (arith, l))

  told_of : (cycle : Cycle) (n : ℕ) → member_count cut ≡ n → IsShownOf n cut cycle
      → (length cycle.entries ≡ member_count cut) × All (IsStepWithin cut) cycle.ring
  told_of cycle zero e still = (
    ap length still.entries ∙ sym e,
    λ k d l. absurd (omega (arith, l, ap length still.ring)),
  )
  told_of cycle (suc more) e shows = (
    shows.repeats.schedule.count,
    steps_within (first_train cycle.ring) cycle.ring (first_train cycle.ring) shows.refuses.is_ring.leads,
  )

  -- there is an entry of each member, and the steps of the ring are within the cut
  pub told : (cycle : Cycle) → IsShown cut cycle
      → (length cycle.entries ≡ member_count cut) × All (IsStepWithin cut) cycle.ring
  told cycle shown = told_of cycle (member_count cut) refl shown
