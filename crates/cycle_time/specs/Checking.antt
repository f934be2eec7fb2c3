-- What is looked at of a cycle that is shown.
use Rattle.std.specs.Prelude.{◌≡◌, ℕ, ◌<◌, ◌≤ℤ◌, ℤ, List, length, slice_index_or, All, pos, ◌-ℤ◌, ◌*ℤ◌, ◌<ℤ◌, ◌≢◌}
use Rattle.plan_model.specs.declared.cut.Cut.{Cut}
use Rattle.plan_model.specs.Members.{place_count, member_count}
use Rattle.plan_model.specs.Schedule.{window_start}
use Rattle.train_order.specs.declared.visits.Visit.{Visit}
use Rattle.cycle_time.specs.Demands.{KeepsPlace}
use Rattle.cycle_time.specs.Laying.{KeepTurns, KeepsAgain}
use Rattle.cycle_time.specs.Types.{Step}
use Rattle.cycle_time.specs.Cycle.{IsStep, no_step}

-- entries keep all places
abbrev pub KeepPlaces : Cut → ℕ → List ℤ → Type 0
KeepPlaces cut period entries = (place : ℕ) → place < place_count cut → KeepsPlace cut period entries place

-- there is an entry for each member, none before the window, and they keep all places
pub record KeepAll (cut : Cut) (period : ℕ) (entries : List ℤ) : Type 0 where
  pub count : length entries ≡ member_count cut
  pub from : All (λ x. window_start cut ≤ℤ x) entries
  pub places : KeepPlaces cut period entries

-- a step of a cut from a train
pub record IsStepFrom (cut : Cut) (train : ℕ) (s : Step) : Type 0 where
  pub from : s.from ≡ train
  pub is_step : IsStep cut s

-- the train to which a step of a list leads is none to which an earlier one leads
abbrev pub Differs : List Step → ℕ → Type 0
Differs steps k = (j : ℕ) → j < k → (slice_index_or steps j no_step).to ≢ (slice_index_or steps k no_step).to

-- a sum is more than so many patterns take in each period below this one
abbrev pub IsMore : ℤ → ℕ → ℕ → Type 0
IsMore sum count period = (pos count *ℤ (pos period -ℤ pos 1)) <ℤ sum

-- entries keep the demands from each visit to the next one, and from the last one to the first one of the next pattern
pub record KeepInTurn (cut : Cut) (place : ℕ) (visits : List Visit) (period : ℕ) (entries : List ℤ) : Type 0 where
  pub turns : KeepTurns cut place visits (length visits) period entries
  pub again : KeepsAgain cut place visits period entries
