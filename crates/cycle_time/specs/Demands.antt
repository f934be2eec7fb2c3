-- Demands: steps with their weights. A demand asks that the second train enters so much after the first; entries keep it if it does.
use Rattle.std.specs.Prelude.{◌≡◌, ℕ, ◌<◌, ℤ, pos, ◌+ℤ◌, ◌-ℤ◌, ◌≤ℤ◌, Bool, if◌then◌else◌, List, All, IsTrue}
use Rattle.plan_model.specs.declared.cut.Cut.{Cut}
use Rattle.plan_model.specs.Members.{block_count, place_count, member, member_count, uses_place, precedes}
use Rattle.plan_model.specs.Schedule.{entry_at, start_by, end_by}
use Rattle.cycle_time.specs.Types.{Demand, Step}
use Rattle.cycle_time.specs.Cycle.{IsStep, weight}

-- the step from member i to member j on a place
abbrev pub step_on : ℕ → ℕ → ℕ → Bool → Step
step_on i j place next = record { from = i; to = j; block = place; next = next }

abbrev pub demand_on : Cut → ℕ → ℕ → ℕ → Bool → Demand
demand_on cut i j place next = record { step = step_on i j place next; weight = weight cut (step_on i j place next) }

-- what lies between two moments of a timetable
pub record IsSpan (w : ℤ) : Type 0 where
  pub above : (pos 0 -ℤ pos 100000000) ≤ℤ w
  pub below : w ≤ℤ pos 100000000

-- a weight between moments of a timetable
pub record IsLight (w : ℤ) : Type 0 where
  pub above : (pos 0 -ℤ pos 200000000) ≤ℤ w
  pub below : w ≤ℤ pos 200000000

-- a step of a cut with its weight
pub record IsDemand (cut : Cut) (e : Demand) : Type 0 where
  pub is_step : IsStep cut e.step
  pub weight_is : e.weight ≡ weight cut e.step
  pub light : IsLight e.weight

-- how much later than the first train the second enters at least, where the pattern repeats in a period
abbrev pub asks : ℕ → Demand → ℤ
asks period e = if e.step.next then e.weight -ℤ pos period else e.weight

-- entries keep a demand in a period
abbrev pub Keeps : ℕ → List ℤ → Demand → Type 0
Keeps period entries e = (entry_at entries e.step.from +ℤ asks period e) ≤ℤ entry_at entries e.step.to

-- entries keep a place: who precedes another has left before the other starts, or as it starts; on a block each has
-- left before any of the next pattern starts, or as it starts
pub record KeepsPlace (cut : Cut) (period : ℕ) (entries : List ℤ) (place : ℕ) : Type 0 where
  pub order : (i j : ℕ) → i < member_count cut → j < member_count cut
      → IsTrue (precedes (member cut i) (member cut j) place)
      → end_by cut entries i place ≤ℤ start_by cut entries j place
  pub again : place < block_count cut → (i j : ℕ) → i < member_count cut → j < member_count cut
      → IsTrue (uses_place (member cut i) place) → IsTrue (uses_place (member cut j) place)
      → end_by cut entries i place ≤ℤ (start_by cut entries j place +ℤ pos period)

-- entries that keep these demands keep the first places
abbrev pub KeepFirst : Cut → List Demand → ℕ → Type 0
KeepFirst cut demands n =
    (period : ℕ) (entries : List ℤ) → All (Keeps period entries) demands → (place : ℕ) → place < n
    → KeepsPlace cut period entries place

-- demands of a cut that are enough: entries that keep them keep all places, whatever the period
pub record AreEnough (cut : Cut) (demands : List Demand) : Type 0 where
  pub each : All (IsDemand cut) demands
  pub enough : KeepFirst cut demands (place_count cut)
