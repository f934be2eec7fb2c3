-- The three ways in which a call that makes an edit ends.
use Rattle.std.specs.Prelude.{◌≡◌, Option, Some, None, Ok, Err}
use Rattle.rail_model.specs.declared.memory.OutOfMemory.{OutOfMemory}
use Rattle.rail_model.specs.declared.edit.Rule.{Rule}
use Rattle.rail_model.specs.declared.tables.Tables.{Tables}
use Rattle.line_tables.specs.AnswersEdit.{AnswersEdit}

module _ (rule : Option Rule) (later old new : Tables) where
  pub refuses : (r : Rule) → rule ≡ Some r → new ≡ old → AnswersEdit rule later (Ok (Err r)) old new
  refuses r is same = record { refused = is; accepted = tt; after = tt; kept = same; kept_without_memory = tt }

  pub makes : rule ≡ None → new ≡ later → AnswersEdit rule later (Ok (Ok tt)) old new
  makes none is = record { refused = tt; accepted = none; after = is; kept = tt; kept_without_memory = tt }

  pub keeps : (e : OutOfMemory) → new ≡ old → AnswersEdit rule later (Err e) old new
  keeps e same = record { refused = tt; accepted = tt; after = tt; kept = tt; kept_without_memory = same }
