-- Ways that go through the line in one direction.
use Rattle.std.specs.Prelude.{◌≡◌, ◌⊎◌, ℕ, ◌-◌, ◌<◌, ◌≤◌, Bool, true, false, List, length, slice_index_or}
use Rattle.std.specs.List.{AllZip}
use Rattle.rail_model.specs.declared.stair.Use.{Use}
use Rattle.plan_model.specs.declared.cut.CutRow.{CutRow}
use Rattle.plan_model.specs.Members.{no_use}
use Rattle.line_cutter.specs.Cutting.{is_within}

-- the use at a place of a list
abbrev pub nth : List Use → ℕ → Use
nth uses k = slice_index_or uses k no_use

-- the blocks rise along the uses before a place, or fall
abbrev pub RiseUpTo : List Use → ℕ → Type 0
RiseUpTo uses n = (i j : ℕ) → i ≤ j → j < n → (nth uses i).block ≤ (nth uses j).block

abbrev pub FallUpTo : List Use → ℕ → Type 0
FallUpTo uses n = (i j : ℕ) → i ≤ j → j < n → (nth uses j).block ≤ (nth uses i).block

-- they rise along all uses, or fall
abbrev pub IsOneWay : List Use → Type 0
IsOneWay uses = RiseUpTo uses (length uses) ⊎ FallUpTo uses (length uses)

-- of these rows, those that are marked go one way
abbrev pub AreOneWay : List CutRow → List Bool → Type 0
AreOneWay rows marks = AllZip (λ row mark. mark ≡ true → IsOneWay row.uses) rows marks

-- the use at a place is of the piece, and the one before it isn't
pub record IsBeginning (uses : List Use) (a b first : ℕ) : Type 0 where
  pub there : first < length uses
  pub within : is_within a b (nth uses first) ≡ true
  pub before : 0 < first → is_within a b (nth uses (first - 1)) ≡ false
