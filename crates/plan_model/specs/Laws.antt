-- Laws of cuts, schedules and answers.
use Rattle.std.specs.Prelude.{◌≡◌, ◌≢◌, ◌⊎◌, ◌↔◌, ℕ, ◌<◌, ◌≤◌, ℤ, pos, ◌-ℤ◌, ◌≤ℤ◌, List, [], ◌++◌, map, take, drop, slice_index, IsTrue, All, AllPairs}
use Rattle.std.specs.List.{list_any}
use Rattle.rail_model.specs.Conflict.{ComesBefore, Overlap}
use Rattle.plan_model.specs.Types.{CutRow, Cut, Link, Answer}
use Rattle.plan_model.specs.Members.{place_name, place_count, places, member, member_count, uses_place, use_at, comes_before, precedes}
use Rattle.plan_model.specs.Cut.{IsSoundCut}
use Rattle.plan_model.specs.Disorder.{preceded, remaining, HaveOrder, ring_members, ring}
use Rattle.plan_model.specs.Schedule.{window_floor, entry_at, start_by, end_by, IsScheduleFrom, IsLeastFrom, IsSchedule, IsLeast, touches}
use Rattle.plan_model.specs.Answer.{IsAnswer, occupancy, PrecedesOnAllBlocks, IsClosingEntry, Fraction, reduced, IsReduced}
use Rattle.plan_model.specs.Planned.{conflicts, IsFreeOfConflict, KeepsConnections}

-- from its floors a cut has at most one least schedule
abbrev pub LeastIsUnique : Type 0
LeastIsUnique =
    (cut : Cut) (floor : ℕ → ℤ) (entries other : List ℤ) → IsLeastFrom cut floor entries
    → IsLeastFrom cut floor other → entries ≡ other

-- a cut has at most one answer
abbrev pub AnswerIsUnique : Type 0
AnswerIsUnique = (cut : Cut) (answer other : Answer) → IsAnswer cut answer → IsAnswer cut other → answer ≡ other

-- member i precedes member j at a place, and leaves it before j starts there, or as j starts
pub record IsClearOf (cut : Cut) (entries : List ℤ) (i j place : ℕ) : Type 0 where
  pub precedes : IsTrue (precedes (member cut i) (member cut j) place)
  pub apart : end_by cut entries i place ≤ℤ start_by cut entries j place

-- by a schedule of a sound cut from any floors, two trains at one place keep it one after the other, in the order of
-- precedence
abbrev pub UsesAreApart : Type 0
UsesAreApart =
    (cut : Cut) (floor : ℕ → ℤ) (entries : List ℤ) → IsSoundCut cut → IsScheduleFrom cut floor entries
    → (i j place : ℕ) → i < member_count cut → j < member_count cut → i ≢ j
    → IsTrue (uses_place (member cut i) place) → IsTrue (uses_place (member cut j) place)
    → IsClearOf cut entries i j place ⊎ IsClearOf cut entries j i place

-- a further round takes out none of the members that remain: each is preceded by one that remains
abbrev pub RemainingIsLeft : Type 0
RemainingIsLeft = (cut : Cut) → preceded cut (remaining cut) ≡ remaining cut

-- the members have an order just where none of them remains
abbrev pub OrderIsNoneRemains : Type 0
OrderIsNoneRemains = (cut : Cut) → HaveOrder cut ↔ (remaining cut ≡ [])

-- a link is true: its train is a member that precedes the next, which is a member too, at the place that it names
pub record IsTrueLink (cut : Cut) (link : Link) : Type 0 where
  pub first : ℕ
  pub second : ℕ
  pub place : ℕ
  pub there : place < place_count cut
  pub precedes : IsTrue (precedes (member cut first) (member cut second) place)
  pub train : link.train ≡ (member cut first).name
  pub block : link.block ≡ place_name cut place
  pub next : link.next ≡ (member cut second).name

-- links are a ring of some members of a cut, which are numbered in the order of their names. Each link is true. The next
-- of each is the train of the link after it, and that of the last is the train of the first. No train comes twice, and
-- the least comes first
pub record IsTrueRing (cut : Cut) (ring : List ℕ) (links : List Link) : Type 0 where
  pub some : ring ≢ []
  pub there : All (λ i. i < member_count cut) ring
  pub trains : map (λ l. l.train) links ≡ map (λ i. (member cut i).name) ring
  pub each : All (IsTrueLink cut) links
  pub close : map (λ l. l.next) links ≡ drop 1 (map (λ l. l.train) links) ++ take 1 (map (λ l. l.train) links)
  pub once : AllPairs (λ a b. a ≢ b) (map (λ l. l.train) links)
  pub least : All (λ i. slice_index ring 0 ≤ i) ring

-- where members of a sound cut remain, what `ring` tells of it is a ring
abbrev pub RingIsTrue : Type 0
RingIsTrue = (cut : Cut) → IsSoundCut cut → remaining cut ≢ [] → IsTrueRing cut (ring_members cut) (ring cut)

-- member j enters at its floor, or touches a member that precedes it
abbrev pub IsTiedFrom : Cut → (ℕ → ℤ) → List ℤ → ℕ → Type 0
IsTiedFrom cut floor entries j =
    (entry_at entries j ≡ floor j)
    ⊎ ((i : ℕ) × (i < member_count cut) × IsTrue (list_any (touches cut entries i j) (places cut)))

-- member j enters at the window's start, or touches a member that precedes it
abbrev pub IsTied : Cut → List ℤ → ℕ → Type 0
IsTied cut entries j = IsTiedFrom cut (window_floor cut) entries j

-- by the least schedule of a sound cut from floors each train is tied
abbrev pub LeastIsTied : Type 0
LeastIsTied =
    (cut : Cut) (floor : ℕ → ℤ) (entries : List ℤ) → IsSoundCut cut → IsLeastFrom cut floor entries
    → (j : ℕ) → j < member_count cut → IsTiedFrom cut floor entries j

-- where no member remains, a schedule from floors in which each train is tied is the least
abbrev pub TiedIsLeast : Type 0
TiedIsLeast =
    (cut : Cut) (floor : ℕ → ℤ) (entries : List ℤ) → remaining cut ≡ [] → IsScheduleFrom cut floor entries
    → ((j : ℕ) → j < member_count cut → IsTiedFrom cut floor entries j) → IsLeastFrom cut floor entries

-- where the planned timetable is free of conflict and keeps its connections, the least schedule has no train later
abbrev pub NoneIsLater : Type 0
NoneIsLater =
    (cut : Cut) (entries : List ℤ) → IsSoundCut cut → IsFreeOfConflict cut → KeepsConnections cut
    → IsLeast cut entries
    → (i : ℕ) → i < member_count cut → entry_at entries i ≤ℤ (member cut i).entry

-- where a train precedes all others on all blocks, the occupancy time is what lies between its entry and that of its closing copy
abbrev pub OccupancyIsToClosing : Type 0
OccupancyIsToClosing =
    (cut : Cut) (entries : List ℤ) (c : ℕ) (entry : ℤ) → IsSoundCut cut → IsSchedule cut entries
    → PrecedesOnAllBlocks cut c
    → IsClosingEntry cut entries c entry → pos (occupancy cut entries) ≡ entry -ℤ entry_at entries c

-- whichever train is copied, and by any entries, the occupancy time is no less than what lies between the train's entry
-- and that of its closing copy
abbrev pub OccupancyReachesClosing : Type 0
OccupancyReachesClosing =
    (cut : Cut) (entries : List ℤ) (c : ℕ) (entry : ℤ) → IsClosingEntry cut entries c entry
    → (entry -ℤ entry_at entries c) ≤ℤ pos (occupancy cut entries)

-- the fraction a over b is reduced
abbrev pub FractionIsReduced : Type 0
FractionIsReduced = (a b : ℕ) → 0 < b → IsReduced (reduced a b) a b

-- there is no other fraction a over b that is reduced
abbrev pub ReducedIsUnique : Type 0
ReducedIsUnique = (a b : ℕ) (f : Fraction) → 0 < b → IsReduced f a b → f ≡ reduced a b

-- a test that says which of two moments with names comes first is that of a timetable's conflicts
abbrev pub ComesBeforeIsTested : Type 0
ComesBeforeIsTested =
    (s t : ℤ) (a b : List ℕ) → IsTrue (comes_before s a t b) ↔ ComesBefore s a t b

-- two members that both use a place conflict there where their uses overlap
abbrev pub ConflictIsOverlap : Type 0
ConflictIsOverlap =
    (i j : CutRow) (place : ℕ) → IsTrue (uses_place i place) → IsTrue (uses_place j place)
    → IsTrue (conflicts i j place) ↔ Overlap (use_at i place) (use_at j place)
