-- Laws of conflicts.
use Rattle.std.specs.Prelude.{◌≡◌, List}
use Rattle.rail_model.specs.declared.stair.Stair.{Stair}
use Rattle.rail_model.specs.Conflict as whole
use Rattle.rail_model.specs.Conflict.{AreConflicts}
use Rattle.conflict_finder.specs.Types.{Conflicts}
use Rattle.conflict_finder.specs.Found.{IsFound}

-- a timetable has one list of conflicts
abbrev pub ConflictsAreUnique : Type 0
ConflictsAreUnique =
    (stairs : List Stair) (list other : List whole.Conflict) → AreConflicts stairs list
    → AreConflicts stairs other → list ≡ other

-- of a timetable's conflicts one list is given, with one number of the rest
abbrev pub FoundIsUnique : Type 0
FoundIsUnique =
    (stairs : List Stair) (found other : Conflicts) → IsFound stairs found → IsFound stairs other → found ≡ other
