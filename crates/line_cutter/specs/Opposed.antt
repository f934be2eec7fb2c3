-- The search for the least opposite pair of a cut.
use Rattle.std.specs.Prelude.{◌≡◌, ℕ, ◌<◌, ◌≤◌, ◌≤ℤ◌, false, List, All}
use Rattle.std.specs.List.{AllZip}
use Rattle.rail_model.specs.declared.stair.Use.{Use}
use Rattle.plan_model.specs.declared.cut.CutRow.{CutRow}
use Rattle.plan_model.specs.declared.cut.Cut.{Cut}
use Rattle.plan_model.specs.Members.{member_count}
use Rattle.plan_model.specs.Disorder.{are_opposite}
use Rattle.train_order.specs.Ordering.{AreOpposed}
use Rattle.line_cutter.specs.Types.{StartRange}

-- all starts lie in the range
pub record IsStartRange (uses : List Use) (range : StartRange) : Type 0 where
  pub first : All (λ u. range.first ≤ℤ u.start) uses
  pub last : All (λ u. u.start ≤ℤ range.last) uses

-- each row has its range
abbrev pub AreStartRanges : List CutRow → List StartRange → Type 0
AreStartRanges rows ranges = AllZip (λ row range. IsStartRange row.uses range) rows ranges

-- the first member after member i that is opposite to it, or the number of members
pub record IsNextOpposite (cut : Cut) (i next : ℕ) : Type 0 where
  pub within : next ≤ member_count cut
  pub none : (k : ℕ) → i < k → k < next → are_opposite cut i k ≡ false
  pub there : next < member_count cut → AreOpposed cut i next
