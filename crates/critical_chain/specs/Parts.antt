-- What is looked at in a timetable, part by part.
use Rattle.std.specs.Prelude.{◌≡◌, ◌≢◌, ℕ, ◌+◌, ◌^◌, ◌<◌, ℤ, pos, ◌≤ℤ◌, int_lt, Bool, true, false, if◌then◌else◌, List, length, filter, fold, slice_index_or, Option, None, Some}
use Rattle.std.specs.List.{range_with_len}
use Rattle.plan_model.specs.declared.cut.CutRow.{CutRow}
use Rattle.plan_model.specs.declared.cut.Cut.{Cut}
use Rattle.plan_model.specs.declared.answer.Tie.{Tie}
use Rattle.plan_model.specs.declared.answer.Tie.TheVariants.{Start, After}
use Rattle.plan_model.specs.declared.answer.Placed.{Placed}
use Rattle.plan_model.specs.declared.answer.Plan.{Plan}
use Rattle.plan_model.specs.Members.{place_names, place_count, comes_first as first_by_names, member, member_count, uses_place, precedes}
use Rattle.plan_model.specs.Schedule.{window_start, entry_at, start_by, end_by, touches}
use Rattle.plan_model.specs.Answer.{occupancy, busiest, critical}
use Rattle.train_order.specs.declared.visits.Visit.{Visit}
use Rattle.train_order.specs.Visits.{no_visit}
use Rattle.critical_chain.specs.declared.last.Latest.{Latest}
use Rattle.critical_chain.specs.Chain.{no_train}

-- a plan has a cut's window, additional time rate and places
pub record HasFrame (cut : Cut) (plan : Plan) : Type 0 where
  pub from : plan.from_s ≡ cut.section.from_s
  pub to : plan.to_s ≡ cut.section.to_s
  pub rate : plan.add_percent ≡ cut.section.add_percent
  pub places : plan.blocks ≡ place_names cut

-- a train is the member of a row, and enters neither before the window's start nor past 2^50
pub record IsTrain (row : CutRow) (from : ℕ) (placed : Placed) : Type 0 where
  pub train : placed.train ≡ row.name
  pub planned : placed.planned ≡ row.entry
  pub after : pos from ≤ℤ placed.entry
  pub before : placed.entry ≤ℤ pos (2 ^ 50)

-- there is such a train for each member
pub record HasTrains (cut : Cut) (placed : List Placed) : Type 0 where
  pub count : length placed ≡ member_count cut
  pub each : (i : ℕ) → i < member_count cut
      → IsTrain (member cut i) cut.section.from_s (slice_index_or placed i no_train)

-- there are such a member and such a place
pub record IsPair (cut : Cut) (i place : ℕ) : Type 0 where
  pub train_there : i < member_count cut
  pub place_there : place < place_count cut

-- a tie names a member and a place, if it names any
abbrev pub IsWithin : Cut → Tie → Type 0
IsWithin cut Start = Unit {0}
IsWithin cut (After i place) = IsPair cut i place

-- member j enters after the window's start, and member i touches it at a place
pub record IsTouched (cut : Cut) (entries : List ℤ) (i j place : ℕ) : Type 0 where
  pub later : entry_at entries j ≢ window_start cut
  pub pair : IsPair cut i place
  pub touch : touches cut entries i j place ≡ true

-- member j enters at the window's start or is touched as a tie says
abbrev pub HasTie : Cut → List ℤ → ℕ → Tie → Type 0
HasTie cut entries j Start = entry_at entries j ≡ window_start cut
HasTie cut entries j (After i place) = IsTouched cut entries i j place

-- the tie of the train at a position
abbrev pub tie_in : List Placed → ℕ → Tie
tie_in placed j = (slice_index_or placed j no_train).tie

-- each train has its tie
abbrev pub HaveTies : Cut → List ℤ → List Placed → Type 0
HaveTies cut entries placed = (j : ℕ) → j < member_count cut → HasTie cut entries j (tie_in placed j)

-- a member and a place come before those of a tie, by name
abbrev pub comes_first : Cut → ℕ → ℕ → Tie → Bool
comes_first cut i place Start = false
comes_first cut i place (After k other) = first_by_names cut (i, place) (k, other)

-- a use may start at `from` after member i's use of the place, which ends at `until`: it doesn't start before that, and
-- where it starts just then, member i and the place do not come before its train's tie, by name
pub record Follows (cut : Cut) (until from : ℤ) (i place : ℕ) (tie : Tie) : Type 0 where
  pub clear : until ≤ℤ from
  pub first : until ≡ from → comes_first cut i place tie ≡ false

-- where a member precedes another at a place, the other's use may follow
abbrev pub KeepsPlace : Cut → List ℤ → List Placed → ℕ → Type 0
KeepsPlace cut entries placed place =
    (i j : ℕ) → i < member_count cut → j < member_count cut
    → precedes (member cut i) (member cut j) place ≡ true
    → Follows cut (end_by cut entries i place) (start_by cut entries j place) i place (tie_in placed j)

-- the trains of a plan keep all places one after the other
abbrev pub KeepPlaces : Cut → List ℤ → List Placed → Type 0
KeepPlaces cut entries placed = (place : ℕ) → place < place_count cut → KeepsPlace cut entries placed place

-- a plan tells the occupancy time, the busiest block and the critical train
pub record IsOccupied (cut : Cut) (entries : List ℤ) (plan : Plan) : Type 0 where
  pub time : plan.occupancy ≡ occupancy cut entries
  pub busiest : plan.busiest ≡ busiest cut entries
  pub critical : plan.critical ≡ critical cut entries

-- the trains of a plan have their ties, keep all places one after the other, and occupy as much as it tells
pub record KeepsAll (cut : Cut) (entries : List ℤ) (plan : Plan) : Type 0 where
  pub ties : HaveTies cut entries plan.placed
  pub keep : KeepPlaces cut entries plan.placed
  pub occupied : IsOccupied cut entries plan

-- ---- the visits of a place in the order of precedence

-- the visit after one may follow it
abbrev pub MayFollowAt : Cut → List ℤ → List Placed → ℕ → List Visit → ℕ → Type 0
MayFollowAt cut entries placed place visits k =
    let i = (slice_index_or visits k no_visit).member in
    let j = (slice_index_or visits (k + 1) no_visit).member in
    Follows cut (end_by cut entries i place) (start_by cut entries j place) i place (tie_in placed j)

-- each visit may follow the one before it
abbrev pub FollowInTurn : Cut → List ℤ → List Placed → ℕ → List Visit → Type 0
FollowInTurn cut entries placed place visits =
    (k : ℕ) → k + 1 < length visits → MayFollowAt cut entries placed place visits k

-- ---- the last member at a block

-- of the latest member so far and of one more the one that ends later; of two that end at one moment, the first
abbrev pub later : Option Latest → ℕ → ℤ → Option Latest
later None i until = Some (record { member = i; until = until })
later (Some latest) i until =
    if int_lt latest.until until then Some (record { member = i; until = until }) else Some latest

-- the member that ends last, if there is one
abbrev pub member_of : Option Latest → Option ℕ
member_of None = None
member_of (Some latest) = Some latest.member

-- the first of the first n members that ends its use of a block last
abbrev pub latest_upto : Cut → List ℤ → ℕ → ℕ → Option Latest
latest_upto cut entries block n =
    fold (λ latest i. later latest i (end_by cut entries i block)) None
    (filter (λ i. uses_place (member cut i) block) (range_with_len 0 n))
