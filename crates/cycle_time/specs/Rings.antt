-- Rings of demands: they refuse a period.
use Rattle.std.specs.Prelude.{◌≡◌, ℕ, ◌<◌, ◌≤◌, ℤ, pos, ◌+ℤ◌, ◌-ℤ◌, ◌*ℤ◌, ◌<ℤ◌, List, [], ◌∷◌, length, map, count_by, All, Option, None, Some, IfSome}
use Rattle.plan_model.specs.declared.limits.TheConstants.{MEMBERS}
use Rattle.plan_model.specs.declared.cut.Cut.{Cut}
use Rattle.plan_model.specs.Members.{member_count}
use Rattle.train_order.specs.Taking.{IsDistinct}
use Rattle.cycle_time.specs.Types.{Demand, Settled, Step, LeastPeriod}
use Rattle.cycle_time.specs.declared.settling.Settled.TheVariants as settled
use Rattle.cycle_time.specs.Cycle.{no_step, Refuses, IsLeastRepeating}
use Rattle.cycle_time.specs.Demands.{IsDemand}
use Rattle.cycle_time.specs.Raising.{Back, cause_at}

-- the train to which a demand leads
abbrev pub to_of : Demand → ℕ
to_of e = e.step.to

-- each cause is a demand between trains that leads to its train
pub record IsCauseOf (n i : ℕ) (e : Demand) : Type 0 where
  pub leads : e.step.to ≡ i
  pub there : e.step.from < n

abbrev pub AreCauses : List (Option Demand) → Type 0
AreCauses causes = (i : ℕ) → i < length causes → IfSome (cause_at causes i) (IsCauseOf (length causes) i)

-- a trail back from a train, by causes, to another
abbrev pub Trails : List (Option Demand) → ℕ → List Demand → ℕ → Type 0
Trails causes i [] j = i ≡ j
Trails causes i (e ∷ trail) j = (cause_at causes i ≡ Some e) × Trails causes e.step.from trail j

-- a trail that comes to no train twice, and ends at a train that was never raised
pub record EndsAt (causes : List (Option Demand)) (top : ℕ) : Type 0 where
  pub trail : List Demand
  pub root : ℕ
  pub there : root < length causes
  pub leads : Trails causes top trail root
  pub never : cause_at causes root ≡ None
  pub short : length trail ≤ length causes

-- a trail round a ring, which comes to no train twice
pub record GoesRound (causes : List (Option Demand)) (ring : List Demand) : Type 0 where
  pub at : ℕ
  pub there : at < length causes
  pub some : 0 < length ring
  pub leads : Trails causes at ring at
  pub once : IsDistinct (map to_of ring)

abbrev pub IsBehind : List (Option Demand) → ℕ → Option (List Demand) → Type 0
IsBehind causes top None = EndsAt causes top
IsBehind causes top (Some ring) = GoesRound causes ring

abbrev pub step_of : Demand → Step
step_of e = e.step

-- stands where there is no demand
abbrev pub no_demand : Demand
no_demand = record { step = no_step; weight = pos 0 }

-- the sum of some weights, and how many demands lead to the next pattern
abbrev pub weights : List Demand → ℤ
weights [] = pos 0
weights (e ∷ demands) = e.weight +ℤ weights demands

abbrev pub laps : List Demand → ℕ
laps demands = count_by (λ e. e.step.next) demands

-- a ring of demands of a cut, back round, that visits no train twice and leads to the next pattern
pub record IsLoop (cut : Cut) (ring : List Demand) : Type 0 where
  pub each : All (IsDemand cut) ring
  pub at : ℕ
  pub leads : Back at ring at
  pub once : IsDistinct (map to_of ring)
  pub some : 0 < laps ring
  pub few : length ring ≤ member_count cut

-- a ring of demands, no more than a cut to be compressed has members, refuses a period: it asks for more than its patterns
-- take
pub record IsRefusal (cut : Cut) (period : ℕ) (ring : List Demand) : Type 0 where
  pub is_loop : IsLoop cut ring
  pub few : length ring ≤ MEMBERS
  pub more : (pos (laps ring) *ℤ pos period) <ℤ weights ring

abbrev pub IsSettling : Cut → ℕ → Settled → Type 0
IsSettling cut period (settled.Repeats entries) = IsLeastRepeating cut period entries
IsSettling cut period (settled.Refused ring) = IsRefusal cut period ring

-- the steps of a ring of demands, from the least train on: they refuse what the demands do
abbrev pub IsTurned : List Demand → List Step → Type 0
IsTurned ring steps =
    (cut : Cut) (period : ℕ) → IsLoop cut ring → (pos (laps ring) *ℤ (pos period -ℤ pos 1)) <ℤ weights ring
    → Refuses cut period steps

-- a ring refuses each period below this one
pub record IsLimit (cut : Cut) (period : ℕ) (ring : List Demand) : Type 0 where
  pub is_loop : IsLoop cut ring
  pub more : (pos (laps ring) *ℤ (pos period -ℤ pos 1)) <ℤ weights ring

-- the least period, with its least entries, and a ring that refuses each lesser one
pub record IsLeastPeriod (cut : Cut) (found : LeastPeriod) : Type 0 where
  pub limit : IsLimit cut found.period found.ring
  pub least : IsLeastRepeating cut found.period found.entries
