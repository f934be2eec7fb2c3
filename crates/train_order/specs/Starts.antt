-- The starts of a member at its places, beside those of another.
use Rattle.std.specs.Prelude.{ℕ, ℤ, int_lt, Bool, false, ◌==◌, ◌&&◌, ◌||◌, List, map, filter, find, Option, Some, None, option_map}
use Rattle.std.specs.Ordering.{int_eq}
use Rattle.rail_model.specs.declared.stair.Use.{Use}

-- the start of the first of some uses that is of a place
abbrev pub start_of : List Use → ℕ → Option ℤ
start_of uses place = option_map (λ u. u.start) (find (λ u. u.block == place) uses)

-- both start, and the first is the earlier or, at one moment, is named before
abbrev pub starts_first : Bool → Option ℤ → Option ℤ → Bool
starts_first named (Some s) (Some t) = int_lt s t || (int_eq s t && named)
starts_first named (Some s) None = false
starts_first named None t = false

-- a use starts before the one of its place among others
abbrev pub is_first_of : Bool → List Use → Use → Bool
is_first_of named others u = starts_first named (Some u.start) (start_of others u.block)

-- the places of those uses that do
abbrev pub places_first : Bool → List Use → List Use → List ℕ
places_first named uses others = map (λ u. u.block) (filter (is_first_of named others) uses)
