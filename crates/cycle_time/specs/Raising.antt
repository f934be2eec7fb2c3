-- Entries that are raised, demand by demand, until they keep all demands.
use Rattle.std.specs.Prelude.{◌≡◌, ◌⊎◌, ℕ, ◌<◌, ℤ, pos, ◌+ℤ◌, ◌-ℤ◌, ◌≤ℤ◌, ◌<ℤ◌, nat_abs, List, [], ◌∷◌, length, slice_index_or, slice_set, sum_by, All, Option, None, Some}
use Rattle.plan_model.specs.declared.cut.Cut.{Cut}
use Rattle.plan_model.specs.Members.{member_count}
use Rattle.plan_model.specs.Schedule.{window_start, entry_at}
use Rattle.cycle_time.specs.Types.{Demand}
use Rattle.cycle_time.specs.declared.settling.TheConstants.{LATEST}
use Rattle.cycle_time.specs.Demands.{IsDemand, asks, Keeps}

-- the demand along which a train was raised last, if it was raised
abbrev pub cause_at : List (Option Demand) → ℕ → Option Demand
cause_at causes i = slice_index_or causes i None

-- demands each of which begins where the next ends, back from one train to another
abbrev pub Back : ℕ → List Demand → ℕ → Type 0
Back i [] j = i ≡ j
Back i (e ∷ demands) j = (e.step.to ≡ i) × Back e.step.from demands j

-- what the demands of a trail ask for in all
abbrev pub asked : ℕ → List Demand → ℤ
asked period [] = pos 0
asked period (e ∷ trail) = asks period e +ℤ asked period trail

-- the trail of a train, or one that it had before it was raised again: that one asks for less
abbrev pub HasOrHad : ℕ → List Demand → List Demand → Type 0
HasOrHad period now trail = (trail ≡ now) ⊎ (asked period trail <ℤ asked period now)

-- a trail begins with the cause of its train, and goes on with the trail that the cause's first train had then
abbrev pub BeginsWith : ℕ → (ℕ → List Demand) → Option Demand → List Demand → Type 0
BeginsWith period trails None trail = trail ≡ []
BeginsWith period trails (Some e) trail =
    (behind : List Demand) × (trail ≡ e ∷ behind) × HasOrHad period (trails e.step.from) behind

-- a train was raised along a trail of demands back from it: it enters as long after the window's start as they ask for
pub record IsRaised (cut : Cut) (period : ℕ) (entries : List ℤ) (trails : ℕ → List Demand) (cause : Option Demand) (i : ℕ)
    (trail : List Demand) : Type 0 where
  pub each : All (IsDemand cut) trail
  pub leads : (root : ℕ) × Back i trail root
  pub entry : entry_at entries i ≡ (window_start cut +ℤ asked period trail)
  pub from : window_start cut ≤ℤ entry_at entries i
  pub begins : BeginsWith period trails cause trail

-- entries that were raised from the window's start on, each train along a trail
pub record AreRaisedAlong (cut : Cut) (period : ℕ) (entries : List ℤ) (causes : List (Option Demand)) (trails : ℕ → List Demand)
    : Type 0 where
  pub count : length entries ≡ member_count cut
  pub causes_count : length causes ≡ member_count cut
  pub each : (i : ℕ) → i < member_count cut
      → IsRaised cut period entries trails (cause_at causes i) i (trails i)

abbrev pub AreRaised : Cut → ℕ → List ℤ → List (Option Demand) → Type 0
AreRaised cut period entries causes = (trails : ℕ → List Demand) × AreRaisedAlong cut period entries causes trails

-- entries and causes before and after one demand along which a train was raised
pub record IsRaisedBy (period : ℕ) (e : Demand) (before : List ℤ) (causes_before : List (Option Demand)) (after : List ℤ)
    (causes_after : List (Option Demand)) : Type 0 where
  pub later : entry_at before e.step.to <ℤ (entry_at before e.step.from +ℤ asks period e)
  pub entries : after ≡ slice_set before e.step.to (entry_at before e.step.from +ℤ asks period e)
  pub causes : causes_after ≡ slice_set causes_before e.step.to (Some e)

-- an entry no further from 0 than LATEST: a later one has a ring behind it. Without a ring a train is raised along fewer
-- than MEMBERS demands, none of which asks for more than 200,000,000 s
pub record IsEarly (x : ℤ) : Type 0 where
  pub after : (pos 0 -ℤ LATEST) ≤ℤ x
  pub before : x ≤ℤ LATEST

abbrev pub AreEarly : List ℤ → Type 0
AreEarly entries = All IsEarly entries

-- no entry lies above this one: that of an early train, raised along one more demand, of at most 200,000,000 s
abbrev pub highest : ℤ
highest = LATEST +ℤ pos 200000000

-- how much later the trains could enter, in all
abbrev pub room : List ℤ → ℕ
room entries = sum_by (λ x. nat_abs (highest -ℤ x)) entries

-- after a round along all demands: no train was raised, and the entries keep all demands; or some were, and one of them is
-- named: all are early, or that one isn't
pub record IsSettled (period : ℕ) (demands : List Demand) (before after : List ℤ) : Type 0 where
  pub same : after ≡ before
  pub keep : All (Keeps period before) demands

pub record IsHigher (before after : List ℤ) (top : ℕ) : Type 0 where
  pub there : top < length after
  pub higher : room after < room before
  pub early : AreEarly after ⊎ (LATEST <ℤ entry_at after top)

abbrev pub IsRound : ℕ → List Demand → List ℤ → List ℤ → Option ℕ → Type 0
IsRound period demands before after None = IsSettled period demands before after
IsRound period demands before after (Some top) = IsHigher before after top
