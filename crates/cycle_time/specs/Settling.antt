-- A round along some demands, so far.
use Rattle.std.specs.Prelude.{ℕ, ◌<◌, ℤ, List, length, Option, None, Some}
use Rattle.cycle_time.specs.Types.{Demand}
use Rattle.cycle_time.specs.Raising.{room, IsSettled}

-- no train was raised, or some were and one of them is named
pub record IsRaisedOnce (before after : List ℤ) (top : ℕ) : Type 0 where
  pub there : top < length after
  pub higher : room after < room before

abbrev pub IsSoFar : ℕ → List Demand → List ℤ → List ℤ → Option ℕ → Type 0
IsSoFar period demands before after None = IsSettled period demands before after
IsSoFar period demands before after (Some top) = IsRaisedOnce before after top
