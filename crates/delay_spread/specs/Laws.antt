-- Laws of delayed schedules.
use Rattle.std.specs.Prelude.{◌≡◌, ℕ, ◌<◌, ◌≤◌, ℤ, ◌+ℤ◌, ◌≤ℤ◌, pos, List, [], All, Result}
use Rattle.plan_model.specs.declared.cut.Cut.{Cut}
use Rattle.plan_model.specs.declared.answer.Disorder.{Disorder}
use Rattle.plan_model.specs.Members.{member_count}
use Rattle.plan_model.specs.Cut.{IsSoundCut}
use Rattle.plan_model.specs.Disorder.{remaining}
use Rattle.plan_model.specs.Schedule.{entry_at, IsSchedule}
use Rattle.plan_model.specs.Planned.{planned_entries}
use Rattle.delay_spread.specs.Spreading.{delay_at, delayed_floor, knock_on, IsDelayedSchedule, IsLeastDelayed, IsSpread, IsSpreading}
use Rattle.delay_spread.specs.Types.{Spread}

-- where no train is delayed and the planned entries are a schedule, no train has a knock-on delay
abbrev pub NoneIsKnockedOn : Type 0
NoneIsKnockedOn =
    (cut : Cut) (delays : List ℕ) (entries : List ℤ) → All (λ d. d ≡ 0) delays → IsSchedule cut (planned_entries cut)
    → IsLeastDelayed cut delays entries → (i : ℕ) → i < member_count cut → knock_on cut delays entries i ≡ 0

-- by a delayed schedule each train enters at its floor and its knock-on delay
abbrev pub EntersByItsKnockOn : Type 0
EntersByItsKnockOn =
    (cut : Cut) (delays : List ℕ) (entries : List ℤ) → IsDelayedSchedule cut delays entries
    → (i : ℕ) → i < member_count cut
    → entry_at entries i ≡ delayed_floor cut delays i +ℤ pos (knock_on cut delays entries i)

-- where each train's own delay is at least as great, no train enters earlier
abbrev pub NoneIsEarlier : Type 0
NoneIsEarlier =
    (cut : Cut) (delays greater : List ℕ) (entries others : List ℤ) → IsLeastDelayed cut delays entries
    → IsLeastDelayed cut greater others
    → ((i : ℕ) → i < member_count cut → delay_at delays i ≤ delay_at greater i)
    → (i : ℕ) → i < member_count cut → entry_at entries i ≤ℤ entry_at others i

-- where no member of a sound cut remains, any delays spread over it: there is a least delayed schedule
abbrev pub SpreadIsThere : Type 0
SpreadIsThere =
    (cut : Cut) (delays : List ℕ) → IsSoundCut cut → remaining cut ≡ [] → (spread : Spread) × IsSpread cut delays spread

-- whatever the delays, each sound cut has an answer: the delays spread, or its disorder
abbrev pub SpreadingIsThere : Type 0
SpreadingIsThere =
    (cut : Cut) (delays : List ℕ) → IsSoundCut cut → (answer : Result Spread Disorder) × IsSpreading cut delays answer

-- delays are spread over a cut in one way: each train has one entry, one knock-on delay and one tie
abbrev pub SpreadIsUnique : Type 0
SpreadIsUnique =
    (cut : Cut) (delays : List ℕ) (spread other : Spread) → IsSpread cut delays spread → IsSpread cut delays other
    → spread ≡ other

-- with its delays a cut has at most one answer: one spread, or one disorder
abbrev pub SpreadingIsUnique : Type 0
SpreadingIsUnique =
    (cut : Cut) (delays : List ℕ) (answer other : Result Spread Disorder) → IsSpreading cut delays answer
    → IsSpreading cut delays other → answer ≡ other
