-- A net of a cut that is mended to one of a later cut, where few of its members change.
use Rattle.std.specs.Prelude.{◌≡◌, ◌⊎◌, ℕ, ◌<◌, Bool, true, false, List, length, slice_index, slice_index_or, Option, None, Some}
use Rattle.std.specs.List.{AllZip}
use Rattle.std.specs.List.Sorted.{IsPermutation}
use Rattle.std.specs.Option.{IsSome}
use Rattle.plan_model.specs.declared.cut.Cut.{Cut}
use Rattle.plan_model.specs.Members.{place_names, member, member_count, members, uses_place, precedes}
use Rattle.train_order.specs.Ordering.{StandsBefore}
use Rattle.train_net.specs.declared.edge.Edge.{Edge}
use Rattle.train_net.specs.Net.{standing, IsNearest, AreEdges, edges_to, FollowInTurn}

-- where a member of a later cut stood before, if it is kept; one that is not kept is fresh
abbrev pub stood : List (Option ℕ) → ℕ → Option ℕ
stood origin i = slice_index_or origin i None

-- a member of a later cut is the one of this position before
pub record IsKept (old new : Cut) (i a : ℕ) : Type 0 where
  pub there : i < member_count new
  pub before : a < member_count old
  pub row : member new i ≡ member old a

-- where all members of a later cut stood: its places have the names of those before, each kept member is the one that
-- it was, and no two were one
pub record IsOrigin (old new : Cut) (origin : List (Option ℕ)) : Type 0 where
  pub places : place_names new ≡ place_names old
  pub kept : (i a : ℕ) → stood origin i ≡ Some a → IsKept old new i a
  pub apart : (i j a : ℕ) → stood origin i ≡ Some a → stood origin j ≡ Some a → i ≡ j

-- kept members stand in the later order as they stood before
abbrev pub AgreeInOrder : List (Option ℕ) → List ℕ → List ℕ → Type 0
AgreeInOrder origin old_order order =
    (k l a b : ℕ) → k < l → l < length order → stood origin (slice_index order k) ≡ Some a
    → stood origin (slice_index order l) ≡ Some b → StandsBefore old_order a b

-- an edge from a kept member, with its position among the later members
pub record IsRenumbered (origin : List (Option ℕ)) (before after : Edge) : Type 0 where
  pub from : stood origin after.from ≡ Some before.from
  pub weight : after.weight ≡ before.weight
  pub place : after.place ≡ before.place

-- whoever stands nearest before a position at one of its places is kept
abbrev pub HasNoneFresh : Cut → List (Option ℕ) → List ℕ → ℕ → Type 0
HasNoneFresh new origin order at =
    (place near : ℕ) → IsNearest new order place near at → uses_place (standing new order at) place ≡ true
    → IsSome (stood origin (slice_index order near))

-- the edges to who stands at a position are those that it had: it is kept, so are all from whom it has an edge, and no
-- fresh member stands nearest before it
pub record AreCarried (new : Cut) (origin : List (Option ℕ)) (order : List ℕ) (old_edges : List (List Edge)) (at : ℕ)
    (edges : List Edge) : Type 0 where
  pub before : ℕ
  pub kept : stood origin (slice_index order at) ≡ Some before
  pub renumbered : AllZip (IsRenumbered origin) (edges_to old_edges before) edges
  pub none_fresh : HasNoneFresh new origin order at

-- what is known of edges that are mended: the order has each member once, kept members stand in it as before, each
-- follows its nearest, and the edges to each are made anew or carried over
pub record AreMended (new : Cut) (origin : List (Option ℕ)) (old_order : List ℕ) (old_edges : List (List Edge)) (order : List ℕ)
    (edges : List (List Edge)) : Type 0 where
  pub each_once : IsPermutation (members new) order
  pub agree : AgreeInOrder origin old_order order
  pub follow : FollowInTurn new order
  pub each : (at : ℕ) → at < length order
      → AreEdges new order at (edges_to edges (slice_index order at))
      ⊎ AreCarried new origin order old_edges at (edges_to edges (slice_index order at))

-- ---- what is looked at again

-- who stands at a position is the first to use a place after another position
pub record IsNearestAfter (cut : Cut) (order : List ℕ) (place at after : ℕ) : Type 0 where
  pub later : at < after
  pub within : after < length order
  pub uses : uses_place (standing cut order after) place ≡ true
  pub none : (k : ℕ) → at < k → k < after → uses_place (standing cut order k) place ≡ false

-- each fresh member follows its nearest at each of its places, and the nearest after it follows it
pub record AreCompared (new : Cut) (origin : List (Option ℕ)) (order : List ℕ) : Type 0 where
  pub before : (place near at : ℕ) → at < length order → stood origin (slice_index order at) ≡ None
      → uses_place (standing new order at) place ≡ true → IsNearest new order place near at
      → precedes (standing new order near) (standing new order at) place ≡ true
  pub after : (place at next : ℕ) → at < length order → stood origin (slice_index order at) ≡ None
      → uses_place (standing new order at) place ≡ true → IsNearestAfter new order place at next
      → precedes (standing new order at) (standing new order next) place ≡ true

-- a member is marked
abbrev pub is_marked : List Bool → ℕ → Bool
is_marked marks i = slice_index_or marks i false

-- at each place of a fresh member the nearest after it is marked
abbrev pub AreMarked : Cut → List (Option ℕ) → List ℕ → List Bool → Type 0
AreMarked new origin order marks =
    (place at next : ℕ) → at < length order → stood origin (slice_index order at) ≡ None
    → uses_place (standing new order at) place ≡ true → IsNearestAfter new order place at next
    → is_marked marks (slice_index order next) ≡ true
