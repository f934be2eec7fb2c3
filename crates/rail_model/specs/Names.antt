-- Names as their bytes, one after another, and where each starts.
use Rattle.std.specs.Prelude.{◌≡◌, ℕ, ◌+◌, ◌-◌, ◌<◌, ◌≤◌, List, length, map, take, drop, slice_index_or}
use Rattle.std.specs.List.{range_with_len}
use Rattle.rail_model.specs.Name.{IsName}

-- where the name at `i` starts; behind the last name, where that one ends
abbrev pub start_at : List ℕ → ℕ → ℕ
start_at starts i = slice_index_or starts i 0

-- the name at `i`: the bytes from its start to the next one
abbrev pub name_at : List ℕ → List ℕ → ℕ → List ℕ
name_at starts bytes i = take (start_at starts (i + 1) - start_at starts i) (drop (start_at starts i) bytes)

-- the names in their order
abbrev pub names_of : List ℕ → List ℕ → List (List ℕ)
names_of starts bytes = map (name_at starts bytes) (range_with_len 0 (length starts - 1))

-- a name stands at `i`, within the bytes
pub record IsNameAt (starts bytes : List ℕ) (i : ℕ) : Type 0 where
  pub rises : start_at starts i ≤ start_at starts (i + 1)
  pub within : start_at starts (i + 1) ≤ length bytes
  pub named : ∥ IsName (name_at starts bytes i) ∥₁

-- names stand from each start to the next one, and the last one ends where the bytes do
pub record AreNames (starts bytes : List ℕ) : Type 0 where
  pub some : 0 < length starts
  pub ends : start_at starts (length starts - 1) ≡ length bytes
  pub each : (i : ℕ) → i + 1 < length starts → IsNameAt starts bytes i
