-- What tests know of answers that are held while a book goes on.
use Rattle.std.specs.Prelude.{List, All}
use Rattle.plan_model.specs.declared.answer.Done.{Done}
use Rattle.plan_model.specs.declared.journal.Entry.{Entry}
use Rattle.plan_model.specs.Outcome.{IsDone}

-- each answer that is held may be published
abbrev pub AreHeld : List Entry → List Done → Type 0
AreHeld journal held = All (IsDone journal) held
