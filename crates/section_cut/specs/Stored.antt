-- The cut of a section that is kept before an edit, and what the edit makes of it.
use Rattle.std.specs.Prelude.{◌≡◌, Some}
use Rattle.rail_model.specs.Rules.{IsSound}
use Rattle.plan_model.specs.Cut.{stamped, cut_of}
use Rattle.section_cut.specs.declared.cut_changes.CutChange.{CutChange}
use Rattle.section_cut.specs.declared.cut_changes.StoredCut.{StoredCut}
use Rattle.section_cut.specs.Change.{IsChange}

-- the tables before and after the edit are sound, and the cut is the section's by those before it
pub record IsStored (stored : StoredCut) : Type 0 where
  pub earlier_sound : IsSound stored.both.before.now
  pub later_sound : IsSound stored.both.after.now
  pub is : cut_of stored.both.before.now stored.section.now ≡ Some (stamped 0 stored.cut.now)

-- this is what the edit makes of it
abbrev pub IsChangeOfStored : StoredCut → CutChange → Type 0
IsChangeOfStored stored result =
    IsChange (cut_of stored.both.before.now stored.section.now) (cut_of stored.both.after.now stored.section.now) stored.number (Some stored.cut.now) result
