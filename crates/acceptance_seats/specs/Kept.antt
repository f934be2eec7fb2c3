-- What tests know of what is kept of a section while its journal goes on.
use Rattle.std.specs.Prelude.{◌≡◌, List, ◌++◌}
use Rattle.plan_model.specs.declared.cut.Cut.{Cut}
use Rattle.plan_model.specs.declared.journal.Entry.{Entry}
use Rattle.plan_model.specs.Legal.{IsLegal, IsReading}
use Rattle.plan_repair.specs.Kept.{Kept, kept_of}

-- what is kept is that of a reading of a beginning of the journal
pub record IsKept (journal : List Entry) (keep : Kept) : Type 0 where
  pub found : List Entry
  pub more : List Entry
  pub is : journal ≡ found ++ more
  pub legal : IsLegal found
  pub cut : Cut
  pub reading : IsReading found cut.section.name cut
  pub kept : keep ≡ kept_of cut
