-- A list in parts, one after the other.
use Rattle.std.specs.Prelude.{◌≡◌, ℕ, ◌≤◌, List, [], ◌∷◌, slice_range}

-- the parts of a list from a place on, each up to one of these ends
abbrev pub parts : {X : Type 0} → ℕ → List ℕ → List X → List (List X)
parts start [] xs = []
parts start (end ∷ ends) xs = slice_range xs start end ∷ parts end ends xs

-- no part ends before it starts, and the last one ends with the list
abbrev pub AreEnds : ℕ → List ℕ → ℕ → Type 0
AreEnds start [] count = start ≡ count
AreEnds start (end ∷ ends) count = (start ≤ end) × AreEnds end ends count
