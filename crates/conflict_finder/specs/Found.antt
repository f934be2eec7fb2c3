-- The conflicts that are listed, and the number of the rest.
use Rattle.std.specs.Prelude.{◌≡◌, ◌-◌, List, length, map, take}
use Rattle.rail_model.specs.declared.stair.Stair.{Stair}
use Rattle.rail_model.specs.Conflict as whole
use Rattle.rail_model.specs.Conflict.{AreConflicts}
use Rattle.conflict_finder.specs.Types.{Conflict, Conflicts}
use Rattle.conflict_finder.specs.declared.found.TheConstants.{LISTED}

-- a conflict as it is listed: the start of the first run's use is left out
abbrev pub as_listed : whole.Conflict → Conflict
as_listed c =
    record { block = c.block; first = c.first; second = c.second; from = c.from; to = c.to }

-- of all conflicts of a timetable, in their order, the first are listed and the rest are counted
pub record IsFound (stairs : List Stair) (found : Conflicts) : Type 0 where
  pub all : List whole.Conflict
  pub are : AreConflicts stairs all
  pub list : found.list ≡ map as_listed (take LISTED all)
  pub more : found.more ≡ length all - LISTED
