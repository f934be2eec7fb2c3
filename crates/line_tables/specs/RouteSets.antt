-- Sets of the keys of routes: at each signal's key of the routes that list it, at each block's key of those that have a
-- signal of it.
use Rattle.std.specs.Prelude.{◌≡◌, ℕ, ◌/◌, ◌==◌, ◌<◌, ◌≤◌, Bool, false, not, ◌&&◌, ◌||◌, List, [], length, slice_index_or, All}
use Rattle.std.specs.Option.{option_map_or}
use Rattle.rail_model.specs.declared.items.Route.{Route}
use Rattle.line_tables.specs.declared.linked.Linked.{Linked}
use Rattle.line_tables.specs.Table.{under}
use Rattle.line_tables.specs.KeySet.{holds}
pub use Rattle.line_tables.specs.Links.{lead_to}

-- a key is in the set at another: in none past the end of the sets
abbrev pub has : List (List ℕ) → ℕ → ℕ → Bool
has sets x r = holds (slice_index_or sets x []) r

-- each set has the same keys
abbrev pub SameSets : List (List ℕ) → List (List ℕ) → Type 0
SameSets old new = (x r : ℕ) → has new x r ≡ has old x r

-- how many words the set at a key has
abbrev pub words_of : List (List ℕ) → ℕ → ℕ
words_of sets x = length (slice_index_or sets x [])

-- no set has fewer words
abbrev pub NoneShorter : List (List ℕ) → List (List ℕ) → Type 0
NoneShorter old new = (x : ℕ) → words_of old x ≤ words_of new x

-- ---- signals, each of which stands for a key: its own, or its block's

-- the sets at what the signals stand for have a word for the route
abbrev pub HasRoomAt : (ℕ → ℕ) → List ℕ → ℕ → List (List ℕ) → Type 0
HasRoomAt f signals route sets = All (λ q. route / 64 < words_of sets (f q)) signals

-- the route is put into the sets at what the signals stand for
abbrev pub IsPutAt : (ℕ → ℕ) → List ℕ → ℕ → List (List ℕ) → List (List ℕ) → Type 0
IsPutAt f signals route old new = (x r : ℕ) → has new x r ≡ ((lead_to f signals x && r == route) || has old x r)

-- the route is taken out of them
abbrev pub IsTakenAt : (ℕ → ℕ) → List ℕ → ℕ → List (List ℕ) → List (List ℕ) → Type 0
IsTakenAt f signals route old new = (x r : ℕ) → has new x r ≡ (not (lead_to f signals x && r == route) && has old x r)

-- the route is taken out of the sets at what its signals stood for, and put into those at what its signals now stand for
abbrev pub IsChangedAt : (ℕ → ℕ) → List ℕ → (ℕ → ℕ) → List ℕ → ℕ → List (List ℕ) → List (List ℕ) → Type 0
IsChangedAt f before g after route old new =
    (x r : ℕ) → has new x r ≡ ((lead_to g after x && r == route) || (not (lead_to f before x && r == route) && has old x r))

-- the routes in a set are taken out of the set at the first key and put into that at the second
abbrev pub IsMoved : List ℕ → ℕ → ℕ → List (List ℕ) → List (List ℕ) → Type 0
IsMoved routes from to old new =
    (x r : ℕ) → has new x r ≡ ((to == x && holds routes r) || (not (from == x && holds routes r) && has old x r))

-- ---- what the sets say

-- the route under a key has a signal that stands for a key
abbrev pub reaches : (ℕ → ℕ) → List (ℕ × Linked Route) → ℕ → ℕ → Bool
reaches f routes x r = option_map_or (λ e. lead_to f e.refs x) (under routes r) false

-- the set at each key has the keys of the routes with a signal that stands for it
abbrev pub AreSetsOf : (ℕ → ℕ) → List (ℕ × Linked Route) → List (List ℕ) → Type 0
AreSetsOf f routes sets = (x r : ℕ) → has sets x r ≡ reaches f routes x r
