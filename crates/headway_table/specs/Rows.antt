-- Two rows of one sound cut.
use Rattle.plan_model.specs.declared.cut.CutRow.{CutRow}
use Rattle.plan_model.specs.declared.cut.Cut.{Cut}
use Rattle.plan_model.specs.Cut.{IsSoundRow}

-- a row of a sound cut
pub record IsRow (row : CutRow) : Type 0 where
  pub cut : Cut
  pub sound : IsSoundRow cut row

-- two such rows
pub record AreRows (a b : CutRow) : Type 0 where
  pub first : IsRow a
  pub second : IsRow b
