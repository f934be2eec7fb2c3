-- The rows of a cut that is renewed from kept rows.
use Rattle.std.specs.Prelude.{◌≡◌, ℕ, List, take, Option}
use Rattle.plan_model.specs.declared.cut.CutRow.{CutRow}
use Rattle.plan_model.specs.Reading.{Shown}
use Rattle.plan_repair.specs.Left.{IsRenewing}
use Rattle.plan_repair.specs.Origin.{StoodBefore}

-- the rows of a reading's cut up to a position are there, with where each stood, and those kept rows are left that may
-- be looked for behind them
pub record IsRenewed (kept : List CutRow) (before : Shown) (upto : ℕ) (rows left : List CutRow) (origin : List (Option ℕ))
    (now : Shown) : Type 0 where
  pub first : rows ≡ take upto before.cut.rows
  pub stood : StoodBefore kept left rows origin
  pub renewing : IsRenewing kept before upto left now
