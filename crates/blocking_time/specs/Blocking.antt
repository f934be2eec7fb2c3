-- The blocking of one block by a run: its use with the six parts.
use Rattle.std.specs.Prelude.{ℕ, Bool, false, List, filter, slice_index_or}
use Rattle.rail_model.specs.declared.path.Path.{Path}
use Rattle.rail_model.specs.declared.stair.Use.{Use}
use Rattle.rail_model.specs.declared.stair.Stair.{Stair}
use Rattle.rail_model.specs.Blocking.{use_of, parts, stairway}
use Rattle.blocking_time.specs.declared.walk.Blocking.{Blocking}
use Rattle.rail_model.specs.Moment.{IsMoment}

-- the blocking of the k-th block
abbrev pub blocking_of : Path → ℕ → Blocking
blocking_of path k = record { used = use_of path k; parts = parts path k }

-- a use starts and ends at moments
pub record IsUseBounded (u : Use) : Type 0 where
  pub start : IsMoment u.start
  pub «end» : IsMoment u.«end»

-- of some uses those of the blocks that are wanted, and a run's stair with these of its uses alone
abbrev pub uses_on : List Bool → List Use → List Use
uses_on wanted uses = filter (λ u. slice_index_or wanted u.block false) uses

abbrev pub stair_on : List Bool → Path → Stair
stair_on wanted path = record { run = path.run; uses = uses_on wanted (stairway path) }
