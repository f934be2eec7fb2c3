-- Mending a net, step by step.
use Rattle.std.specs.Prelude.{◌≡◌, ◌⊎◌, ℕ, ◌<◌, ◌≤◌, Bool, true, false, List, length, slice_index, slice_index_or, All, Option, None, Some, Ok}
use Rattle.std.specs.List.{AllZip}
use Rattle.std.specs.List.Sorted.{IsPermutation}
use Rattle.plan_model.specs.declared.cut.Cut.{Cut}
use Rattle.plan_model.specs.Members.{uses_place, member_count, members, precedes}
use Rattle.plan_model.specs.Cut.{IsSoundCut}
use Rattle.train_net.specs.declared.edge.Edge.{Edge}
use Rattle.train_net.specs.declared.near.Near.{Near}
use Rattle.train_net.specs.declared.net.Net.{Net}
use Rattle.train_net.specs.Net.{standing, IsNearest, AreEdges, edges_to}
use Rattle.train_net.specs.Held.{IsNetOf}
use Rattle.train_net.specs.Mended.{stood, is_marked, AreMarked, IsOrigin, AgreeInOrder}
use Rattle.train_order.specs.Ordering.{IsOrdering}
use Rattle.rail_model.specs.declared.stair.Use.{Use}
use Rattle.train_order.specs.Visits.{is_earlier}

-- a number stands in a list from one place on, before another
pub record StandsFrom (before : List ℕ) (i from next : ℕ) : Type 0 where
  pub at : ℕ
  pub from_there : from ≤ at
  pub upto : at < next
  pub within : at < length before
  pub is : slice_index before at ≡ i

-- by the present positions of members that are kept: the member of this position stood there
abbrev pub AreNow : List (Option ℕ) → List (Option ℕ) → Type 0
AreNow origin now = (old i : ℕ) → slice_index_or now old None ≡ Some i → stood origin i ≡ Some old

-- an edge with the present position of the member from whom it is
pub record IsMoved (now : List (Option ℕ)) (before after : Edge) : Type 0 where
  pub from : slice_index_or now before.from None ≡ Some after.from
  pub weight : after.weight ≡ before.weight
  pub place : after.place ≡ before.place

-- the edges to who stands at a position are made anew, and it follows its nearest at each of its places
pub record AreAnew (cut : Cut) (order : List ℕ) (at : ℕ) (edges : List Edge) : Type 0 where
  pub edges_are : AreEdges cut order at edges
  pub follow : (place near : ℕ) → IsNearest cut order place near at → uses_place (standing cut order at) place ≡ true
      → precedes (standing cut order near) (standing cut order at) place ≡ true

-- the edges to a member are made anew where it stands
pub record AreAnewTo (cut : Cut) (order : List ℕ) (member : ℕ) (edges : List Edge) : Type 0 where
  pub at : ℕ
  pub within : at < length order
  pub is : slice_index order at ≡ member
  pub anew : AreAnew cut order at edges

-- or they are those that it had: it is kept, and not marked
pub record AreMoved (origin now : List (Option ℕ)) (marks : List Bool) (old_edges : List (List Edge)) (member : ℕ) (edges : List Edge)
    : Type 0 where
  pub before : ℕ
  pub kept : stood origin member ≡ Some before
  pub unmarked : is_marked marks member ≡ false
  pub moved : AllZip (IsMoved now) (edges_to old_edges before) edges

-- marks that are kept
abbrev pub KeepMarks : List Bool → List Bool → Type 0
KeepMarks before after = (i : ℕ) → is_marked before i ≡ true → is_marked after i ≡ true

-- where who stands at a position is fresh, the nearest before it is marked at each of its places
abbrev pub IsMarkedAt : Cut → List (Option ℕ) → List ℕ → List Bool → ℕ → Type 0
IsMarkedAt cut origin order marks at =
    stood origin (slice_index order at) ≡ None → (place near : ℕ) → uses_place (standing cut order at) place ≡ true
    → IsNearest cut order place near at → is_marked marks (slice_index order near) ≡ true

-- the edges to a member are made anew or those that it had
abbrev pub AreRemade : Cut → List (Option ℕ) → List (Option ℕ) → List Bool → List ℕ → List (List Edge) → ℕ → List Edge → Type 0
AreRemade cut origin now marks order old_edges member edges =
    AreAnewTo cut order member edges ⊎ AreMoved origin now marks old_edges member edges

-- those to the first n members are
pub record AreRemadeUpto (cut : Cut) (origin now : List (Option ℕ)) (marks : List Bool) (order : List ℕ) (old_edges : List (List Edge))
    (n : ℕ) (edges : List (List Edge)) : Type 0 where
  pub lists : length edges ≡ n
  pub each : (member : ℕ) → member < n → AreRemade cut origin now marks order old_edges member (edges_to edges member)

-- all edges are, and whoever stands nearest after a fresh member is marked
pub record AreAllMended (cut : Cut) (origin now : List (Option ℕ)) (order : List ℕ) (old_edges edges : List (List Edge))
    : Type 0 where
  pub marks : List Bool
  pub marked : AreMarked cut origin order marks
  pub remade : AreRemadeUpto cut origin now marks order old_edges (member_count cut) edges

-- who is found, if anybody is, starts before a member's use or, at one moment, has the lesser name
abbrev pub comes_ahead : Option Near → ℕ → Use → Bool
comes_ahead None train u = true
comes_ahead (Some near) train u = is_earlier (near.one.start, near.train) (u.start, train)

-- ---- orders

-- each member that is kept has the position that it had
abbrev pub KeepPositions : List (Option ℕ) → Type 0
KeepPositions origin = (i a : ℕ) → stood origin i ≡ Some a → a ≡ i

-- so it is, and there are as many members as before
pub record StandAsBefore (cut : Cut) (origin : List (Option ℕ)) (before : Net) : Type 0 where
  pub lists : length before.edges ≡ member_count cut
  pub there : All (λ i. i < member_count cut) before.order
  pub keep : KeepPositions origin

-- a net is one of a later cut, whose members have its order
pub record IsMended (cut : Cut) (later : Net) : Type 0 where
  pub net : IsNetOf cut later
  pub ordering : IsOrdering cut (Ok (record { positions = later.order }))

-- a net has an order, and is one of a later cut if the order has each member once and agrees with that of before
abbrev pub MendsIn : Cut → List (Option ℕ) → Net → List ℕ → Net → Type 0
MendsIn cut origin before order later =
    (old : Cut) → IsSoundCut old → IsNetOf old before → IsOrigin old cut origin → IsPermutation (members cut) order
    → AgreeInOrder origin before.order order → IsMended cut later
