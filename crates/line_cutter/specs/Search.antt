-- How far the search for a cutting is.
use Rattle.std.specs.Prelude.{◌≡◌, ℕ, ◌+◌, ◌<◌, ◌≤◌, List, [], ◌∷◌, Option, None, Some, Err}
use Rattle.plan_model.specs.declared.cut.Cut.{Cut}
use Rattle.plan_model.specs.declared.answer.Disorder.{Disorder}
use Rattle.plan_model.specs.Members.{block_count}
use Rattle.train_order.specs.Ordering.{IsOrdering}
use Rattle.line_cutter.specs.Types.{Stretch, Longest}
use Rattle.line_cutter.specs.Cutting.{piece, IsOrderly, IsStretch}

-- a piece is orderly, or this is its disorder
abbrev pub IsTried : Cut → ℕ → ℕ → Option Disorder → Type 0
IsTried cut a b None = IsOrderly (piece cut a b)
IsTried cut a b (Some disorder) = IsOrdering (piece cut a b) (Err disorder)

-- a piece of the line, of one block or more, is orderly
pub record IsFitting (cut : Cut) (a b : ℕ) : Type 0 where
  pub some : a < b
  pub within : b ≤ block_count cut
  pub orderly : IsOrderly (piece cut a b)

-- the orderly piece ends with the line, or one block more leaves it without order
abbrev pub IsEnd : Cut → ℕ → ℕ → Option Disorder → Type 0
IsEnd cut a b None = b ≡ block_count cut
IsEnd cut a b (Some disorder) = (b < block_count cut) × IsOrdering (piece cut a (b + 1)) (Err disorder)

pub record IsLongestFrom (cut : Cut) (a : ℕ) (found : Longest) : Type 0 where
  pub fits : IsFitting cut a found.end
  pub is_end : IsEnd cut a found.end found.disorder

-- from block a up to block j the line is cut into orderly pieces, each with its stretch
abbrev pub AreCutTo : Cut → ℕ → List ℕ → List Stretch → ℕ → Type 0
AreCutTo cut a [] [] j = a ≡ j
AreCutTo cut a [] (stretch ∷ stretches) j = ⊥
AreCutTo cut a (b ∷ ends) [] j = ⊥
AreCutTo cut a (b ∷ ends) (stretch ∷ stretches) j =
    IsFitting cut a b × (b < block_count cut) × IsStretch cut a b stretch × AreCutTo cut b ends stretches j
