-- What is read off a net beside entries: ties, and the last use of each place.
use Rattle.std.specs.Prelude.{◌≡◌, ◌≢◌, ℕ, ◌<◌, ℤ, ◌+ℤ◌, ◌≤ℤ◌, ◌⊎◌, true, false, List, length, slice_index, slice_index_or, All, Any, Option, None, Some}
use Rattle.plan_model.specs.declared.cut.Cut.{Cut}
use Rattle.plan_model.specs.declared.answer.Tie.{Tie}
use Rattle.plan_model.specs.declared.answer.Tie.TheVariants.{Start, After}
use Rattle.plan_model.specs.Members.{comes_first, place_count, member_count, uses_place}
use Rattle.plan_model.specs.Schedule.{entry_at, start_by, end_by}
use Rattle.occupancy_rate.specs.declared.spans.Span.{Span}
use Rattle.train_placing.specs.declared.last.Last.{Last}
use Rattle.train_placing.specs.Placing.{IsFloor}
use Rattle.train_net.specs.declared.edge.Edge.{Edge}
use Rattle.train_net.specs.Net.{standing, edges_to}

-- when a train may enter by an edge to it
abbrev pub by_edge : List ℤ → Edge → ℤ
by_edge entries e = entry_at entries e.from +ℤ e.weight

-- a train enters not before its floor, nor before an edge to it allows, and at its floor or as an edge allows
pub record IsSolved (floor : ℤ) (edges : List Edge) (entries : List ℤ) (entry : ℤ) : Type 0 where
  pub from : floor ≤ℤ entry
  pub after : All (λ e. by_edge entries e ≤ℤ entry) edges
  pub tied : (entry ≡ floor) ⊎ Any (λ e. entry ≡ by_edge entries e) edges

-- all trains enter so
abbrev pub AreSolved : Cut → (ℕ → ℤ) → List (List Edge) → List ℤ → Type 0
AreSolved cut floor edges entries =
    (j : ℕ) → j < member_count cut → IsSolved (floor j) (edges_to edges j) entries (entry_at entries j)

-- an edge from a train at a place as which another enters
pub record IsTightAt (entries : List ℤ) (entry : ℤ) (train position : ℕ) (e : Edge) : Type 0 where
  pub tight : entry ≡ by_edge entries e
  pub from : e.from ≡ train
  pub place : e.place ≡ position

-- of the edges as which a train enters one is from this train at this place, and none is from a train and at a place
-- that come before, by name
pub record IsFirstTight (cut : Cut) (edges : List Edge) (entries : List ℤ) (entry : ℤ) (i place : ℕ) : Type 0 where
  pub one : Any (IsTightAt entries entry i place) edges
  pub first : All (λ e. entry ≡ by_edge entries e → comes_first cut (e.from, e.place) (i, place) ≡ false) edges

-- the tie of a train by the edges to it: its floor where it enters then, else the first edge as which it enters
abbrev pub IsTieBy : Cut → ℤ → List Edge → List ℤ → ℤ → Tie → Type 0
IsTieBy cut floor edges entries entry Start = entry ≡ floor
IsTieBy cut floor edges entries entry (After i place) = (entry ≢ floor) × IsFirstTight cut edges entries entry i place

-- the last use of a place is that of the last in an order who uses it
pub record IsLastAlong (cut : Cut) (order : List ℕ) (entries : List ℤ) (place : ℕ) (last : Last) : Type 0 where
  pub at : ℕ
  pub within : at < length order
  pub train : last.train ≡ slice_index order at
  pub uses : uses_place (standing cut order at) place ≡ true
  pub until : last.until ≡ end_by cut entries last.train place
  pub none : (k : ℕ) → at < k → k < length order → uses_place (standing cut order k) place ≡ false

-- or nobody uses it
abbrev pub IsLeftAlong : Cut → List ℕ → List ℤ → ℕ → Option Last → Type 0
IsLeftAlong cut order entries place None = (k : ℕ) → k < length order → uses_place (standing cut order k) place ≡ false
IsLeftAlong cut order entries place (Some last) = IsLastAlong cut order entries place last

-- what is read off a net, from floors
pub record AreRead (cut : Cut) (floor : ℕ → ℤ) (order : List ℕ) (edges : List (List Edge)) (entries : List ℤ) (ties : List Tie)
    (last : List (Option Last)) : Type 0 where
  pub entries_count : length entries ≡ member_count cut
  pub ties_count : length ties ≡ member_count cut
  pub places : length last ≡ place_count cut
  pub floors : (j : ℕ) → j < member_count cut → IsFloor (floor j)
  pub solved : AreSolved cut floor edges entries
  pub tied : (j : ℕ) → j < member_count cut
      → IsTieBy cut (floor j) (edges_to edges j) entries (entry_at entries j) (slice_index_or ties j Start)
  pub left : (place : ℕ) → place < place_count cut
      → IsLeftAlong cut order entries place (slice_index_or last place None)

-- a block is kept from the start of the first in an order who uses it to the end of the last
pub record IsSpannedAlong (cut : Cut) (order : List ℕ) (entries : List ℤ) (block : ℕ) (span : Span) : Type 0 where
  pub first : ℕ
  pub last : ℕ
  pub first_within : first < length order
  pub last_within : last < length order
  pub first_uses : uses_place (standing cut order first) block ≡ true
  pub last_uses : uses_place (standing cut order last) block ≡ true
  pub none_before : (k : ℕ) → k < first → uses_place (standing cut order k) block ≡ false
  pub none_after : (k : ℕ) → last < k → k < length order → uses_place (standing cut order k) block ≡ false
  pub start : span.start ≡ start_by cut entries (slice_index order first) block
  pub stop : span.«end» ≡ end_by cut entries (slice_index order last) block

-- or nobody uses it
abbrev pub IsSpanAlong : Cut → List ℕ → List ℤ → ℕ → Option Span → Type 0
IsSpanAlong cut order entries block None =
    (k : ℕ) → k < length order → uses_place (standing cut order k) block ≡ false
IsSpanAlong cut order entries block (Some span) = IsSpannedAlong cut order entries block span
