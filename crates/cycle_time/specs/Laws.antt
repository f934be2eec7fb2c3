-- Laws of cycles.
use Rattle.std.specs.Prelude.{◌≡◌, ℕ, ◌≤◌, ℤ, List, [], None, Result}
use Rattle.plan_model.specs.declared.cut.Cut.{Cut}
use Rattle.plan_model.specs.declared.answer.Disorder.{Disorder}
use Rattle.plan_model.specs.Cut.{IsSoundCut}
use Rattle.plan_model.specs.Disorder.{opposite, remaining}
use Rattle.plan_model.specs.Schedule.{IsSchedule}
use Rattle.plan_model.specs.Answer.{occupancy}
use Rattle.cycle_time.specs.Types.{Step, Cycle}
use Rattle.cycle_time.specs.Cycle.{IsRepeating, Refuses, IsCycle, IsCycleOf, IsAnswered}

-- the ring alone refuses each lesser period: no list of entries repeats in one
abbrev pub NoLesserPeriod : Type 0
NoLesserPeriod =
    (cut : Cut) (period other : ℕ) (ring : List Step) (entries : List ℤ) → Refuses cut period ring
    → IsRepeating cut other entries → period ≤ other

-- what repeats in a period repeats in each longer one
abbrev pub LongerRepeats : Type 0
LongerRepeats =
    (cut : Cut) (period longer : ℕ) (entries : List ℤ) → period ≤ longer → IsRepeating cut period entries
    → IsRepeating cut longer entries

-- a ring that refuses each period below one refuses each below a shorter one
abbrev pub ShorterIsRefused : Type 0
ShorterIsRefused =
    (cut : Cut) (period shorter : ℕ) (ring : List Step) → shorter ≤ period → Refuses cut period ring
    → Refuses cut shorter ring

-- a schedule repeats in a period as long as its occupancy time: it keeps no block for longer
abbrev pub ScheduleRepeats : Type 0
ScheduleRepeats =
    (cut : Cut) (entries : List ℤ) → IsSchedule cut entries → IsRepeating cut (occupancy cut entries) entries

-- the cycle time is at most the occupancy time of each schedule, and so of the compressed timetable
abbrev pub PeriodIsWithinOccupancy : Type 0
PeriodIsWithinOccupancy =
    (cut : Cut) (cycle : Cycle) (entries : List ℤ) → IsCycle cut cycle → IsSchedule cut entries
    → cycle.period ≤ occupancy cut entries

-- two cycles have one period and the same entries; their rings may differ
pub record AreAlike (cycle other : Cycle) : Type 0 where
  pub period : cycle.period ≡ other.period
  pub entries : cycle.entries ≡ other.entries

-- all cycles of a cut are alike
abbrev pub CyclesAreAlike : Type 0
CyclesAreAlike = (cut : Cut) (cycle other : Cycle) → IsCycle cut cycle → IsCycle cut other → AreAlike cycle other

-- where the trains of a sound cut have an order, it has a cycle: a period with the least entries that repeat in it, and a
-- ring that refuses each lesser one
abbrev pub CycleIsThere : Type 0
CycleIsThere =
    (cut : Cut) → IsSoundCut cut → opposite cut ≡ None → remaining cut ≡ [] → (cycle : Cycle) × IsCycleOf cut cycle

-- a sound cut has an answer: a cycle, where its trains have an order, else their disorder
abbrev pub AnswerIsThere : Type 0
AnswerIsThere = (cut : Cut) → IsSoundCut cut → (answer : Result Cycle Disorder) × IsAnswered cut answer
