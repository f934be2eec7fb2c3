-- Steps that lead from a train back to it, looked at one by one.
use Rattle.std.proofs.Common.{◌≡◌, ℕ, zero, suc, ◌+◌, ◌<◌, ◌≤◌, List, [], ◌∷◌, ◌++◌, length, get_or, take, drop, sym, ap, subst, arith}
use Rattle.std.specs.Prelude.{◌+ℤ◌, All}
use Rattle.std.proofs.lemmas.Int.{ints}
use Rattle.std.proofs.lemmas.List.{take_more, drop_more, drop_all}
use Rattle.plan_model.specs.declared.cut.Cut.{Cut}
use Rattle.cycle_time.specs.declared.found.Step.{Step}
use Rattle.cycle_time.specs.Cycle.{no_step, IsStep, weight, total, Leads}
use Rattle.cycle_time.specs.Checking.{IsStepFrom}

-- steps lead from one train to another where those from the place k on lead there from a third
pub record IsLed (cut : Cut) (i : ℕ) (steps : List Step) (j k train : ℕ) : Type 0 where
  pub there : Leads cut i steps j → Leads cut train (drop k steps) j
  pub back : Leads cut train (drop k steps) j → Leads cut i steps j

pub led_none : (cut : Cut) (i : ℕ) (steps : List Step) (j : ℕ) → IsLed cut i steps j 0 i
led_none cut i steps j = record { there = λ h. h; back = λ h. h }

module _ (cut : Cut) (i : ℕ) (steps : List Step) (j k train : ℕ) (led : IsLed cut i steps j k train) where
  abbrev at : Step
  at = get_or steps k no_step

  more : k < length steps → drop k steps ≡ at ∷ drop (k + 1) steps
  more l = drop_more steps k no_step l

  pub led_more : k < length steps → IsStepFrom cut train at → IsLed cut i steps j (k + 1) at.to
  led_more l is = record {
    there = λ h. (subst (λ ss. Leads cut train ss j) (more l) (led.there h)).2;
    back = λ h. led.back (subst (λ ss. Leads cut train ss j) (sym (more l)) (is.is_step, is.from, h));
  }

  pub led_step : k < length steps → Leads cut i steps j → IsStepFrom cut train at
  led_step l h =
      let leads = subst (λ ss. Leads cut train ss j) (more l) (led.there h) in
      record { from = leads.1; is_step = leads.0 }

  none : length steps ≤ k → drop k steps ≡ []
  none l = drop_all k steps l

  pub led_all : length steps ≤ k → train ≡ j → Leads cut i steps j
  led_all l e = led.back (subst (λ ss. Leads cut train ss j) (sym (none l)) e)

  pub led_end : length steps ≤ k → Leads cut i steps j → train ≡ j
  led_end l h = subst (λ ss. Leads cut train ss j) (none l) (led.there h)

pub all_steps : (cut : Cut) (i : ℕ) (steps : List Step) (j : ℕ) → Leads cut i steps j → All (IsStep cut) steps
all_steps cut i [] j leads k d l = absurd (omega (arith, l))
all_steps cut i (s ∷ steps) j leads zero d l = leads.0
all_steps cut i (s ∷ steps) j leads (suc k) d l = all_steps cut s.to steps j leads.2 k d (omega (arith, l))

-- ---- what steps ask for in all

total_append : (cut : Cut) (steps more : List Step) → total cut (steps ++ more) ≡ (total cut steps +ℤ total cut more)
total_append cut [] more = omega (arith, ints)
total_append cut (s ∷ steps) more = let rest = total_append cut steps more in omega (arith, ints, rest)

pub total_more : (cut : Cut) (steps : List Step) (k : ℕ) → k < length steps
    → total cut (take (k + 1) steps) ≡ (total cut (take k steps) +ℤ weight cut (get_or steps k no_step))
total_more cut steps k l =
    let more = ap (total cut) (take_more steps k no_step l) in
    let split = total_append cut (take k steps) (get_or steps k no_step ∷ []) in
    omega (arith, ints, more, split)
