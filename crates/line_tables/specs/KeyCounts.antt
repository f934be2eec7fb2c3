-- How often keys are referred to.
use Rattle.std.specs.Prelude.{◌≡◌, ℕ, ◌+◌, ◌<◌, ◌^◌, ◌==◌, List, length, slice_index, count_by, All}

-- the count of a key: 0 past the end of the counts
abbrev pub count_of : List ℕ → ℕ → ℕ
count_of counts k = slice_index counts k

-- how often a key stands in a list of keys
abbrev pub times : ℕ → List ℕ → ℕ
times k keys = count_by (λ q. q == k) keys

-- each key has the same count
abbrev pub SameCounts : List ℕ → List ℕ → Type 0
SameCounts old new = (k : ℕ) → count_of new k ≡ count_of old k

-- a key has a count that may rise by this much
pub record HasRoomFor (counts : List ℕ) (more k : ℕ) : Type 0 where
  pub within : k < length counts
  pub below : count_of counts k + more < 2 ^ 64

-- each of the keys may be counted once more for each of them
abbrev pub HasRoom : List ℕ → List ℕ → Type 0
HasRoom counts keys = All (HasRoomFor counts (length keys)) keys
