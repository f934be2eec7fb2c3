-- Trains that are placed one after the other.
use Rattle.std.specs.Prelude.{◌≡◌, ◌≢◌, ℕ, ◌+◌, ◌*◌, ◌<◌, ℤ, pos, ◌-ℤ◌, ◌≤ℤ◌, true, false, List, length, slice_index_or, slice_set, Option, None, Some, IsTrue}
use Rattle.rail_model.specs.Name.{is_before}
use Rattle.plan_model.specs.declared.cut.Cut.{Cut}
use Rattle.plan_model.specs.declared.answer.Tie.{Tie}
use Rattle.plan_model.specs.declared.answer.Tie.TheVariants.{Start, After}
use Rattle.plan_model.specs.Members.{place_name, place_count, member, member_count, uses_place, precedes, is_among}
use Rattle.plan_model.specs.Schedule.{entry_at, start_by, end_by, touches}
use Rattle.train_placing.specs.declared.last.Last.{Last}
use Rattle.train_placing.specs.Last.{earliest, with_row}
use Rattle.train_placing.specs.Touch.{tie}

-- a floor lies within 100,000,000 seconds from 0: a moment of a timetable, or later by as much
pub record IsFloor (t : ℤ) : Type 0 where
  pub after : (pos 0 -ℤ pos 100000000) ≤ℤ t
  pub before : t ≤ℤ pos 100000000

-- when a train with a floor enters that is placed next
abbrev pub next_entry : Cut → ℕ → ℤ → List (Option Last) → ℤ
next_entry cut train floor last = earliest floor (member cut train) last

-- one more train is placed, from its floor: it enters as early as its places are free from then on, its tie is the first
-- train and place that it touches, and its places have it as their last use
pub record IsNextPlaced (cut : Cut) (train : ℕ) (floor : ℤ) (entries : List ℤ) (ties : List Tie) (last : List (Option Last))
    (new_entries : List ℤ) (new_ties : List Tie) (new_last : List (Option Last)) : Type 0 where
  pub entry : new_entries ≡ slice_set entries train (next_entry cut train floor last)
  pub tie : new_ties
      ≡ slice_set ties train (tie cut (member cut train) floor
      (next_entry cut train floor last) last)
  pub count : length new_last ≡ length last
  pub each : (place : ℕ) → place < length last → slice_index_or new_last place None
      ≡ with_row (member cut train) train (next_entry cut train floor last) place
      (slice_index_or last place None)

-- the last use of a place by some trains: that of one of them, before which all others have left
pub record IsLast (cut : Cut) (entries : List ℤ) (some : List ℕ) (place : ℕ) (last : Last) : Type 0 where
  pub there : is_among some last.train ≡ true
  pub uses : uses_place (member cut last.train) place ≡ true
  pub until : last.until ≡ end_by cut entries last.train place
  pub others : (i : ℕ) → is_among some i ≡ true → uses_place (member cut i) place ≡ true → i ≢ last.train
      → end_by cut entries i place ≤ℤ start_by cut entries last.train place

-- what is known of a place: none of them uses it, or its last use
abbrev pub IsLeft : Cut → List ℤ → List ℕ → ℕ → Option Last → Type 0
IsLeft cut entries some place None = (i : ℕ) → is_among some i ≡ true → uses_place (member cut i) place ≡ false
IsLeft cut entries some place (Some last) = IsLast cut entries some place last

-- a train enters after its floor and touches another at a place, and no pair of a train and a place that it touches is less by names
pub record IsFirstTouch (cut : Cut) (floor : ℕ → ℤ) (entries : List ℤ) (j i place : ℕ) : Type 0 where
  pub later : entry_at entries j ≢ floor j
  pub there : i < member_count cut
  pub place_there : place < place_count cut
  pub touch : touches cut entries i j place ≡ true
  pub first : (k p : ℕ) → touches cut entries k j p ≡ true → i < k + 1
  pub first_place : (p : ℕ) → touches cut entries i j p ≡ true
      → is_before (place_name cut p) (place_name cut place) ≡ false

-- the tie of a train
abbrev pub IsTie : Cut → (ℕ → ℤ) → List ℤ → ℕ → Tie → Type 0
IsTie cut floor entries j Start = entry_at entries j ≡ floor j
IsTie cut floor entries j (After i place) = IsFirstTouch cut floor entries j i place

-- by when n trains have entered at the latest
abbrev pub latest : ℕ → ℤ
latest n = pos (100000000 + n * 200000000)

-- some trains are placed, none before its floor
pub record ArePlaced (cut : Cut) (floor : ℕ → ℤ) (some : List ℕ) (entries : List ℤ) (ties : List Tie) (last : List (Option Last))
    : Type 0 where
  pub entries_count : length entries ≡ member_count cut
  pub ties_count : length ties ≡ member_count cut
  pub places : length last ≡ place_count cut
  pub there : (i : ℕ) → is_among some i ≡ true → i < member_count cut
  pub from : (i : ℕ) → is_among some i ≡ true → floor i ≤ℤ entry_at entries i
  pub latest : (i : ℕ) → is_among some i ≡ true → entry_at entries i ≤ℤ latest (length some)
  pub order : (i j place : ℕ) → is_among some i ≡ true → is_among some j ≡ true
      → IsTrue (precedes (member cut i) (member cut j) place)
      → end_by cut entries i place ≤ℤ start_by cut entries j place
  pub closed : (i j place : ℕ) → i < member_count cut → is_among some j ≡ true
      → IsTrue (precedes (member cut i) (member cut j) place) → is_among some i ≡ true
  pub tied : (j : ℕ) → is_among some j ≡ true → IsTie cut floor entries j (slice_index_or ties j Start)
  pub left : (place : ℕ) → place < place_count cut
      → IsLeft cut entries some place (slice_index_or last place None)
