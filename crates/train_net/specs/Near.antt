-- Who stands nearest before a position of an order at each place, as a table of all places tells it.
use Rattle.std.specs.Prelude.{◌≡◌, ℕ, ◌<◌, ◌≤◌, true, false, List, All, slice_index, slice_index_or, Option, None, Some}
use Rattle.rail_model.specs.declared.stair.Use.{Use}
use Rattle.plan_model.specs.declared.cut.Cut.{Cut}
use Rattle.plan_model.specs.Members.{uses_place, use_at, block_count, place_count}
use Rattle.train_net.specs.declared.near.Near.{Near}
use Rattle.train_net.specs.Net.{standing, IsNearest}

-- who is found at a place after a train's use of it, if it uses it
abbrev pub near_by : ℕ → Option Use → Option Near → Option Near
near_by train None before = before
near_by train (Some u) before = Some (record { train = train; one = u })

-- who was found first
abbrev pub filled : Option Near → Option Near → Option Near
filled None other = other
filled (Some near) other = Some near

-- who is found at a place stands nearest before a position of an order, with its use of the place
pub record IsNearAt (cut : Cut) (order : List ℕ) (at place : ℕ) (near : Near) : Type 0 where
  pub position : ℕ
  pub nearest : IsNearest cut order place position at
  pub train : near.train ≡ slice_index order position
  pub one : near.one ≡ use_at (standing cut order position) place

-- or, from a position on, nobody before it uses the place
abbrev pub IsNearFrom : Cut → List ℕ → ℕ → ℕ → ℕ → Option Near → Type 0
IsNearFrom cut order from at place None =
    (k : ℕ) → from ≤ k → k < at → uses_place (standing cut order k) place ≡ false
IsNearFrom cut order from at place (Some near) = IsNearAt cut order at place near

-- or nobody before it uses the place
abbrev pub IsNear : Cut → List ℕ → ℕ → ℕ → Option Near → Type 0
IsNear cut order at place near = IsNearFrom cut order 0 at place near

-- the table has at each place who stands nearest, of those from a position of the order on
abbrev pub AreNearFrom : Cut → List ℕ → ℕ → ℕ → List (Option Near) → Type 0
AreNearFrom cut order from at near =
    (place : ℕ) → place < place_count cut → IsNearFrom cut order from at place (slice_index_or near place None)

-- a place of a connection
abbrev pub IsConnectionOf : Cut → ℕ → Type 0
IsConnectionOf cut place = (block_count cut ≤ place) × (place < place_count cut)

-- the table has who stands nearest at each of these places
abbrev pub AreNear : Cut → List ℕ → ℕ → List ℕ → List (Option Near) → Type 0
AreNear cut order at wanted near = All (λ p. IsNear cut order at p (slice_index_or near p None)) wanted

-- the table has who stands nearest at each place of who stands at the position
abbrev pub AreNearAt : Cut → List ℕ → ℕ → List (Option Near) → Type 0
AreNearAt cut order at near =
    (place : ℕ) → uses_place (standing cut order at) place ≡ true → IsNear cut order at place (slice_index_or near place None)
