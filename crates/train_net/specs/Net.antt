-- The net of a cut: for each train edges from the trains that stand nearest before it in an order of all.
use Rattle.std.specs.Prelude.{◌≡◌, ℕ, ◌<◌, ◌≤ℤ◌, true, false, List, [], length, slice_index, slice_index_or, All, Any}
use Rattle.rail_model.specs.Name.{is_before}
use Rattle.plan_model.specs.declared.cut.CutRow.{CutRow}
use Rattle.plan_model.specs.declared.cut.Cut.{Cut}
use Rattle.plan_model.specs.Members.{place_name, place_count, member, member_count, uses_place, precedes, headway_at}
use Rattle.train_order.specs.Ordering.{IsOrder}
use Rattle.train_net.specs.declared.edge.Edge.{Edge}

-- the member that stands at a position of an order
abbrev pub standing : Cut → List ℕ → ℕ → CutRow
standing cut order at = member cut (slice_index order at)

-- who stands at a position is the last to use a place before another position
pub record IsNearest (cut : Cut) (order : List ℕ) (place near at : ℕ) : Type 0 where
  pub before : near < at
  pub uses : uses_place (standing cut order near) place ≡ true
  pub none : (k : ℕ) → near < k → k < at → uses_place (standing cut order k) place ≡ false

-- an edge to member j: it is from one that precedes j at the edge's place, and weighs the headway there
pub record IsEdge (cut : Cut) (j : ℕ) (e : Edge) : Type 0 where
  pub there : e.from < member_count cut
  pub place_there : e.place < place_count cut
  pub precedes : precedes (member cut e.from) (member cut j) e.place ≡ true
  pub weight : e.weight ≡ headway_at (member cut e.from) (member cut j) e.place

-- an edge covers that member i comes before member j at a place: it is from i and asks for no less, and where the
-- place asks for as much, no name of a place comes before that of the edge
pub record Covers (cut : Cut) (i j place : ℕ) (e : Edge) : Type 0 where
  pub from : e.from ≡ i
  pub tight : headway_at (member cut i) (member cut j) place ≤ℤ e.weight
  pub first : headway_at (member cut i) (member cut j) place ≡ e.weight
      → is_before (place_name cut place) (place_name cut e.place) ≡ false

-- the edges to the member at a position of an order: each is one, and whoever stands nearest before it at one of its
-- places is covered
pub record AreEdges (cut : Cut) (order : List ℕ) (at : ℕ) (edges : List Edge) : Type 0 where
  pub real : All (IsEdge cut (slice_index order at)) edges
  pub all : (place near : ℕ) → IsNearest cut order place near at → uses_place (standing cut order at) place ≡ true
      → Any (Covers cut (slice_index order near) (slice_index order at) place) edges

-- the edges to member j
abbrev pub edges_to : List (List Edge) → ℕ → List Edge
edges_to edges j = slice_index_or edges j []

-- a net of a cut: an order of its members, and the edges to each
pub record IsNet (cut : Cut) (order : List ℕ) (edges : List (List Edge)) : Type 0 where
  pub in_order : IsOrder cut order
  pub each : (at : ℕ) → at < length order → AreEdges cut order at (edges_to edges (slice_index order at))

-- whoever stands nearest before a position at one of its places precedes there
abbrev pub FollowInTurn : Cut → List ℕ → Type 0
FollowInTurn cut order =
    (place near at : ℕ) → at < length order → IsNearest cut order place near at
    → uses_place (standing cut order at) place ≡ true
    → precedes (standing cut order near) (standing cut order at) place ≡ true
