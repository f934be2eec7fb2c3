-- A walk over members, each time to the first that precedes, until one comes a second time.
use Rattle.std.specs.Prelude.{◌≡◌, ◌⊎◌, ℕ, zero, suc, ◌+◌, ◌<◌, true, List, length, find, drop, reverse, unwrap_or, slice_index}
use Rattle.std.specs.List.{list_any}
use Rattle.plan_model.specs.declared.cut.Cut.{Cut}
use Rattle.plan_model.specs.Members.{member_count, precedes_somewhere}
use Rattle.plan_model.specs.Disorder.{ring_members, from_least}
use Rattle.train_order.specs.Types.{MemberSet}
use Rattle.train_order.specs.Sets.{relates}
use Rattle.train_order.specs.Taking.{is_among, IsDistinct}

-- the first of some members that precedes j
abbrev pub step : List MemberSet → List ℕ → ℕ → ℕ
step sets left j = unwrap_or (find (λ i. relates sets i j) left) j

-- k steps from j
abbrev pub steps : List MemberSet → List ℕ → ℕ → ℕ → ℕ
steps sets left zero j = j
steps sets left (suc k) j = step sets left (steps sets left k j)

-- each of some members is preceded by one of them
pub record ArePrecededWithin (sets : List MemberSet) (left : List ℕ) : Type 0 where
  pub there : (j : ℕ) → is_among left j ≡ true → j < length sets
  pub preceded : (j : ℕ) → is_among left j ≡ true → list_any (λ i. relates sets i j) left ≡ true

-- the members of a walk from the first of some, and the next; none of them came twice
pub record IsWalk (sets : List MemberSet) (left walk : List ℕ) (after : ℕ) : Type 0 where
  pub once : IsDistinct walk
  pub within : (k : ℕ) → k < length walk → is_among left (slice_index walk k) ≡ true
  pub each : (k : ℕ) → k < length walk → slice_index walk k ≡ steps sets left k (slice_index left 0)
  pub after_within : is_among left after ≡ true
  pub after_is : after ≡ steps sets left (length walk) (slice_index left 0)

-- a walk to the first member that comes a second time, and where it came first
pub record IsRound (sets : List MemberSet) (left walk : List ℕ) (from : ℕ) : Type 0 where
  pub is_walk : IsWalk sets left walk (slice_index walk from)
  pub came : from < length walk

-- in a ring of n members the one at place l comes after the one at place k
abbrev pub IsNext : ℕ → ℕ → ℕ → Type 0
IsNext n k l = (k + 1 ≡ l) ⊎ ((k + 1 ≡ n) × (l ≡ 0))

-- each member of a ring precedes the next
pub record IsRing (cut : Cut) (members : List ℕ) : Type 0 where
  pub some : 0 < length members
  pub there : (k : ℕ) → k < length members → slice_index members k < member_count cut
  pub precedes : (k l : ℕ) → k < length members → l < length members → IsNext (length members) k l
      → precedes_somewhere cut (slice_index members k) (slice_index members l) ≡ true

-- the ring of a cut, each member of which precedes the next
pub record IsRingOf (cut : Cut) (members : List ℕ) : Type 0 where
  pub is : members ≡ ring_members cut
  pub in_turn : IsRing cut members

-- members of a ring: a walk over some members from the place on to which it comes back, the other way round and from
-- the least on
pub record IsRingBy (sets : List MemberSet) (left members : List ℕ) : Type 0 where
  pub walk : List ℕ
  pub from : ℕ
  pub round : IsRound sets left walk from
  pub is : members ≡ from_least (reverse (drop from walk))
