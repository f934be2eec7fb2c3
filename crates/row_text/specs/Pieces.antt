-- A list that is cut at places.
use Rattle.std.specs.Prelude.{ℕ, List, [], ◌∷◌, slice_range}

-- the pieces of a list that end at these places, after a start
unfoldable pub pieces : {X : Type 0} → ℕ → List ℕ → List X → List (List X)
pieces start [] xs = []
pieces start (end ∷ ends) xs = slice_range xs start end ∷ pieces end ends xs
