-- Rows of two lists whose names rise, side by side.
use Rattle.std.specs.Prelude.{◌≡◌, ◌≢◌, ◌⊎◌, ℕ, ◌<◌, ◌≤◌, false, List, length, slice_index_or, Option, Some, None, option_map, find}
use Rattle.rail_model.specs.Name.{IsBefore, is_before, is_same}
use Rattle.plan_model.specs.declared.cut.CutRow.{CutRow}
use Rattle.plan_model.specs.Cut.{stamped_row}
use Rattle.plan_model.specs.Members.{no_member}

-- the rows below this place have names before this one
pub record AreBefore (rows : List CutRow) (name : List ℕ) (at : ℕ) : Type 0 where
  pub within : at ≤ length rows
  pub below : (k : ℕ) → k < at → IsBefore (slice_index_or rows k no_member).name name

-- and the row at this place, if there is one, hasn't
pub record IsReached (rows : List CutRow) (name : List ℕ) (at : ℕ) : Type 0 where
  pub before : AreBefore rows name at
  pub stops : at < length rows → is_before (slice_index_or rows at no_member).name name ≡ false

-- the row at this place has this name
abbrev pub IsThere : List CutRow → List ℕ → ℕ → Type 0
IsThere rows name at = (at < length rows) × ((slice_index_or rows at no_member).name ≡ name)

-- this is the row at this place, which has this name, or the row there hasn't
abbrev pub IsOwn : List CutRow → List ℕ → ℕ → Option CutRow → Type 0
IsOwn rows name at (Some row) = IsThere rows name at × (slice_index_or rows at no_member ≡ row)
IsOwn rows name at None = IsThere rows name at → ⊥

-- a row is the one of its name before an edit, stamp included; or that one's value is another, and the row has the
-- edit's number
abbrev pub IsStamped : ℕ → Option CutRow → CutRow → Type 0
IsStamped number own row =
    (own ≡ Some row) ⊎ ((row.stamp ≡ number) × (option_map (stamped_row 0) own ≢ Some (stamped_row 0 row)))

-- it is so by the row of its name among these
abbrev pub IsStampedBy : ℕ → List CutRow → CutRow → Type 0
IsStampedBy number old row = IsStamped number (find (λ r. is_same r.name row.name) old) row
