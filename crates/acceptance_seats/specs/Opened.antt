-- What tests know of a book: that it was just opened.
use Rattle.std.specs.Prelude.{◌≡◌, ℕ, List, [], ◌∷◌}
use Rattle.rail_model.specs.declared.tables.Tables.{Tables}
use Rattle.plan_model.specs.declared.scripts.Task.{Task}
use Rattle.plan_model.specs.declared.journal.Entry.{Entry}
use Rattle.plan_model.specs.Session.{opened}

-- a journal that is opened, by pass 0, and has no further entry
pub record IsJustOpened (journal : List Entry) : Type 0 where
  pub tables : Tables
  pub at : ℕ
  pub scripts : List (List Task)
  pub is : journal ≡ opened tables at scripts ∷ []
