-- The demands of a cut's places: on one place by its visits in the order of precedence, and on all along an order.
use Rattle.std.specs.Prelude.{◌≡◌, ℕ, ◌+◌, ◌-◌, ◌<◌, ℤ, pos, ◌+ℤ◌, ◌-ℤ◌, ◌≤ℤ◌, Bool, true, false, if◌then◌else◌, ◌==◌, IsTrue, Option, None, Some, IfSome, List, length, slice_index_or, All}
use Rattle.std.specs.List.{list_any}
use Rattle.rail_model.specs.declared.stair.Use.{Use}
use Rattle.plan_model.specs.declared.cut.Cut.{Cut}
use Rattle.plan_model.specs.Members.{block_count, place_count, is_among, member, member_count, uses_place, use_at, precedes}
use Rattle.plan_model.specs.Cut.{IsMoment}
use Rattle.plan_model.specs.Schedule.{start_by, end_by}
use Rattle.train_order.specs.declared.visits.Visit.{Visit}
use Rattle.train_order.specs.Visits.{no_visit}
use Rattle.cycle_time.specs.Types.{Demand, Stay, Ends}
use Rattle.cycle_time.specs.Demands.{step_on, demand_on, IsSpan, IsDemand, Keeps}

-- a visit of a place by one of its users
pub record IsVisitOf (cut : Cut) (place : ℕ) (v : Visit) : Type 0 where
  pub there : v.member < member_count cut
  pub used : IsTrue (uses_place (member cut v.member) place)
  pub starts : v.start ≡ (use_at (member cut v.member) place).start
  pub ends : (v.start +ℤ pos v.lasts_s) ≡ (use_at (member cut v.member) place).«end»
  pub start_within : IsMoment v.start
  pub end_within : IsMoment (v.start +ℤ pos v.lasts_s)
  pub entry_within : IsMoment (member cut v.member).entry

-- the train of the visit at a place of the list
abbrev pub train_at : List Visit → ℕ → ℕ
train_at visits k = (slice_index_or visits k no_visit).member

-- one train precedes another on a place
abbrev pub GoesBefore : Cut → ℕ → ℕ → ℕ → Type 0
GoesBefore cut place i j = IsTrue (precedes (member cut i) (member cut j) place)

-- visits of a place of which each one's train precedes the next one's
pub record AreTurns (cut : Cut) (place : ℕ) (visits : List Visit) : Type 0 where
  pub each : All (IsVisitOf cut place) visits
  pub goes : (k : ℕ) → k + 1 < length visits
      → GoesBefore cut place (train_at visits k) (train_at visits (k + 1))

-- entries keep the demand from one visit's train to the next one's
abbrev pub KeepsTurn : Cut → ℕ → List Visit → ℕ → List ℤ → ℕ → Type 0
KeepsTurn cut place visits period entries k =
    Keeps period entries (demand_on cut (train_at visits k) (train_at visits (k + 1)) place false)

-- entries keep these demands for the first n visits
abbrev pub KeepTurns : Cut → ℕ → List Visit → ℕ → ℕ → List ℤ → Type 0
KeepTurns cut place visits n period entries =
    (k : ℕ) → k + 1 < n → KeepsTurn cut place visits period entries k

-- on a block, they keep the demand from the last visit's train to the first one's of the next pattern
abbrev pub KeepsAgain : Cut → ℕ → List Visit → ℕ → List ℤ → Type 0
KeepsAgain cut place visits period entries =
    place < block_count cut → 0 < length visits
    → Keeps period entries (demand_on cut (train_at visits (length visits - 1)) (train_at visits 0) place true)

-- ---- the demands of all places, along an order

-- a train's use of a place by its entry
abbrev pub stay_by : ℕ → ℤ → Use → Stay
stay_by train entry u = record { train = train; from = u.start -ℤ entry; until = u.«end» -ℤ entry }

-- the first and the last use with one use more
abbrev pub with_stay : Option Ends → Stay → Ends
with_stay None stay = record { first = stay; last = stay }
with_stay (Some ends) stay = record { first = ends.first; last = stay }

-- the demand from the train of one use of a place to that of another
abbrev pub demand_to : Stay → Stay → ℕ → Bool → Demand
demand_to one other place next =
    record { step = step_on one.train other.train place next; weight = one.until -ℤ other.from }

-- two demands are between the same trains, of the same patterns
pub record AreBetweenSame (one other : Demand) : Type 0 where
  pub from : one.step.from ≡ other.step.from
  pub to : one.step.to ≡ other.step.to
  pub next : one.step.next ≡ other.step.next

-- demands cover one more: entries that keep them keep that one, too
abbrev pub Cover : List Demand → Demand → Type 0
Cover demands e = (period : ℕ) (entries : List ℤ) → All (Keeps period entries) demands → Keeps period entries e

-- some demands and one more: those that there are cover those that there were, and the one
pub record IsAdded (before after : List Demand) (e : Demand) : Type 0 where
  pub each : (cut : Cut) → All (IsDemand cut) before → IsDemand cut e → All (IsDemand cut) after
  pub kept : (period : ℕ) (entries : List ℤ) → All (Keeps period entries) after → All (Keeps period entries) before
  pub more : Cover after e

-- the demand from the last use of a place so far, if there is one, is added to some demands
abbrev pub IsLedTo : Option Ends → Stay → ℕ → List Demand → List Demand → Type 0
IsLedTo None stay place before after = after ≡ before
IsLedTo (Some ends) stay place before after = IsAdded before after (demand_to ends.last stay place false)

-- the demand from the last use of a place to the first use by the next pattern, if there is one, is added to some demands
abbrev pub IsLedOn : Option Ends → ℕ → List Demand → List Demand → Type 0
IsLedOn None place before after = after ≡ before
IsLedOn (Some ends) place before after = IsAdded before after (demand_to ends.last ends.first place true)

-- what demands from the last use and to the first one are weighed by
pub record HaveSpans (ends : Ends) : Type 0 where
  pub first : IsSpan ends.first.from
  pub last : IsSpan ends.last.until

-- a use of a place by one of its users
pub record IsStayOf (cut : Cut) (place : ℕ) (s : Stay) : Type 0 where
  pub there : s.train < member_count cut
  pub used : IsTrue (uses_place (member cut s.train) place)
  pub is : s ≡ stay_by s.train (member cut s.train).entry (use_at (member cut s.train) place)
  pub from : IsSpan s.from
  pub until : IsSpan s.until

-- the first and the last use of a place by some trains: none of them precedes the first one there, nor does the last one
-- precede any of them
pub record AreEnds (cut : Cut) (place : ℕ) (some : List ℕ) (ends : Ends) : Type 0 where
  pub first : IsStayOf cut place ends.first
  pub last : IsStayOf cut place ends.last
  pub first_among : IsTrue (is_among some ends.first.train)
  pub last_among : IsTrue (is_among some ends.last.train)
  pub none_before : (i : ℕ) → IsTrue (is_among some i) → GoesBefore cut place i ends.first.train → ⊥
  pub none_after : (i : ℕ) → IsTrue (is_among some i) → GoesBefore cut place ends.last.train i → ⊥

-- these are the ends, or none of the trains uses the place
abbrev pub AreEndsIfAny : Cut → ℕ → List ℕ → Option Ends → Type 0
AreEndsIfAny cut place some None = (i : ℕ) → IsTrue (is_among some i) → uses_place (member cut i) place ≡ false
AreEndsIfAny cut place some (Some ends) = AreEnds cut place some ends

-- entries keep the order of some trains on a place: who precedes another has left before the other starts, or as it starts
abbrev pub KeepOrder : Cut → ℕ → List ℕ → List ℤ → Type 0
KeepOrder cut place some entries =
    (i j : ℕ) → IsTrue (is_among some i) → IsTrue (is_among some j) → GoesBefore cut place i j
    → end_by cut entries i place ≤ℤ start_by cut entries j place

-- demands are enough for the order of some trains on a place, and the ends are known
pub record AreEnoughFor (cut : Cut) (place : ℕ) (some : List ℕ) (demands : List Demand) (known : Option Ends) : Type 0 where
  pub enough : (period : ℕ) (entries : List ℤ) → All (Keeps period entries) demands
      → KeepOrder cut place some entries
  pub ends : AreEndsIfAny cut place some known

-- the ends of a place, in a table of all places
abbrev pub ends_at : List (Option Ends) → ℕ → Option Ends
ends_at ends place = slice_index_or ends place None

-- the demands of a cut that are laid so far are enough on each place for some trains
pub record AreLaidOn (cut : Cut) (some : ℕ → List ℕ) (demands : List Demand) (ends : List (Option Ends)) : Type 0 where
  pub each : All (IsDemand cut) demands
  pub count : length ends ≡ place_count cut
  pub places : (p : ℕ) → p < place_count cut → AreEnoughFor cut p (some p) demands (ends_at ends p)

-- on all places for the same ones
abbrev pub AreLaid : Cut → List ℕ → List Demand → List (Option Ends) → Type 0
AreLaid cut some demands ends = AreLaidOn cut (λ place. some) demands ends

-- some trains, and on the places of some uses one more
abbrev pub with_uses : List ℕ → List ℕ → List Use → ℕ → List ℕ
with_uses some more uses place = if list_any (λ u. u.block == place) uses then more else some

-- the demands are laid, and on the first blocks those to the next pattern
pub record AreLaidAgain (cut : Cut) (some : List ℕ) (demands : List Demand) (ends : List (Option Ends)) (n : ℕ) : Type 0 where
  pub laid : AreLaid cut some demands ends
  pub again : (block : ℕ) → block < n
      → IfSome (ends_at ends block) (λ e. Cover demands (demand_to e.last e.first block true))
