-- The edges to a train, gathered from who stands nearest before it at each of its places.
use Rattle.std.specs.Prelude.{◌≡◌, ◌⊎◌, ℕ, ◌<◌, ◌-ℤ◌, int_lt, Bool, true, ◌&&◌, ◌||◌, List, [], ◌∷◌, ◌++◌, slice_index_or, All, Any, Option, None, Some, IfSome}
use Rattle.std.specs.Ordering.{int_eq}
use Rattle.rail_model.specs.declared.stair.Use.{Use}
use Rattle.rail_model.specs.Name.{is_before}
use Rattle.plan_model.specs.declared.cut.Cut.{Cut}
use Rattle.plan_model.specs.Members.{place_name, member, member_count, uses_place, use_at, precedes}
use Rattle.train_net.specs.declared.edge.Edge.{Edge}
use Rattle.train_net.specs.declared.near.Near.{Near}
use Rattle.train_net.specs.Net.{IsEdge, Covers}

-- the edge to member j at its use of a place, from who stands nearest before it there
abbrev pub edge_of : Cut → ℕ → Use → Near → Edge
edge_of cut j u near = record {
  from = near.train;
  weight = (near.one.«end» -ℤ (member cut near.train).entry) -ℤ (u.start -ℤ (member cut j).entry);
  place = u.block;
}

-- who is found at a place precedes member j there
pub record IsAhead (cut : Cut) (j place : ℕ) (near : Near) : Type 0 where
  pub there : near.train < member_count cut
  pub one : near.one ≡ use_at (member cut near.train) place
  pub precedes : precedes (member cut near.train) (member cut j) place ≡ true

-- at each of its places
abbrev pub AreAhead : Cut → ℕ → List (Option Near) → Type 0
AreAhead cut j near =
    (place : ℕ) → uses_place (member cut j) place ≡ true → IfSome (slice_index_or near place None) (IsAhead cut j place)

-- edges cover that those who are found come before member j
abbrev pub AreCovered : Cut → ℕ → List (Option Near) → List Edge → Type 0
AreCovered cut j near edges =
    (place : ℕ) (one : Near) → uses_place (member cut j) place ≡ true → slice_index_or near place None ≡ Some one
    → Any (Covers cut one.train j place) edges

-- edges with a last one, if there is one
abbrev pub with_last : List Edge → Option Edge → List Edge
with_last edges None = edges
with_last edges (Some last) = edges ++ last ∷ []

-- one edge more is gathered: edges stay edges, and what they cover stays covered, and so does what the one more covers
pub record Gathers (cut : Cut) (before : List Edge) (next : Option Edge) (after : List Edge) : Type 0 where
  pub real : (j : ℕ) → All (IsEdge cut j) before → IfSome next (IsEdge cut j) → All (IsEdge cut j) after
  pub kept : (i j place : ℕ) → Any (Covers cut i j place) before → Any (Covers cut i j place) after
  pub added : (i j place : ℕ) (e : Edge) → next ≡ Some e → Covers cut i j place e → Any (Covers cut i j place) after

-- of two edges from one train the other is chosen: it asks for more or, where both ask for as much, its place's name
-- comes before
abbrev pub takes_over : Cut → Edge → Edge → Bool
takes_over cut a b =
    int_lt a.weight b.weight
    || (int_eq a.weight b.weight && is_before (place_name cut b.place) (place_name cut a.place))

-- one of two edges covers what either of them does
pub record IsTighter (cut : Cut) (a b tighter : Edge) : Type 0 where
  pub either : (tighter ≡ a) ⊎ (tighter ≡ b)
  pub first : (i j place : ℕ) → Covers cut i j place a → Covers cut i j place tighter
  pub second : (i j place : ℕ) → Covers cut i j place b → Covers cut i j place tighter
