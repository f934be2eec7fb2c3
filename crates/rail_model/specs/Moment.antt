-- Moments: seconds that lie within the reach of all paths that fit.
use Rattle.std.specs.Prelude.{ℤ, pos, ◌-ℤ◌, ◌≤ℤ◌}
use Rattle.rail_model.specs.declared.limits.TheConstants.{GREATEST_MOMENT_S}

-- a moment is at most 50,000,000 seconds from 0
pub record IsMoment (t : ℤ) : Type 0 where
  pub after : (pos 0 -ℤ GREATEST_MOMENT_S) ≤ℤ t
  pub before : t ≤ℤ GREATEST_MOMENT_S
