-- Sets of keys, as bits of words.
use Rattle.std.specs.Prelude.{◌≡◌, ℕ, ◌/◌, ◌%◌, ◌==◌, ◌<◌, ◌&&◌, Bool, true, false, List, length, slice_index}
use Rattle.std.specs.Int.{bit_at}

-- a key is in the set: its bit of the word that has it is 1
abbrev pub holds : List ℕ → ℕ → Bool
holds words k = bit_at (slice_index words (k / 64)) (k % 64) == 1

-- each key is in the one set where it is in the other
abbrev pub SameKeys : List ℕ → List ℕ → Type 0
SameKeys old new = (k : ℕ) → holds new k ≡ holds old k

-- the set has a word for the key
abbrev pub HasWord : List ℕ → ℕ → Type 0
HasWord words k = k / 64 < length words

-- some key is in both sets
abbrev pub Meets : List ℕ → List ℕ → Type 0
Meets a b = (k : ℕ) × ((holds a k && holds b k) ≡ true)

-- no key is in both sets
abbrev pub KeepsApart : List ℕ → List ℕ → Type 0
KeepsApart a b = (k : ℕ) → (holds a k && holds b k) ≡ false
