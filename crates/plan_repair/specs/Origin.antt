-- Where the rows of a cut stood among kept rows.
use Rattle.std.specs.Prelude.{◌≡◌, ℕ, ◌<◌, ◌+◌, List, length, slice_index_or, Option, Some}
use Rattle.plan_model.specs.declared.cut.CutRow.{CutRow}
use Rattle.plan_model.specs.Members.{no_member}
use Rattle.train_net.specs.Mended.{stood}

-- for each of some rows where it stood among kept rows, if it is kept: it is the row there, and no two were one
pub record StoodAmong (kept rows : List CutRow) (origin : List (Option ℕ)) : Type 0 where
  pub count : length origin ≡ length rows
  pub within : (i a : ℕ) → stood origin i ≡ Some a → a < length kept
  pub same : (i a : ℕ) → stood origin i ≡ Some a → slice_index_or rows i no_member ≡ slice_index_or kept a no_member
  pub apart : (i j a : ℕ) → stood origin i ≡ Some a → stood origin j ≡ Some a → i ≡ j

-- for each row so far where it stood among kept rows, if it is kept: always before those that are left
pub record StoodBefore (kept left rows : List CutRow) (origin : List (Option ℕ)) : Type 0 where
  pub so_far : StoodAmong kept rows origin
  pub passed : (i a : ℕ) → stood origin i ≡ Some a → a + length left < length kept
