-- What a call that makes an edit answers.
use Rattle.std.specs.Prelude.{◌≡◌, Option, Some, None, Result, IfOk, IfErr, OnOk, OnErr}
use Rattle.rail_model.specs.declared.memory.OutOfMemory.{OutOfMemory}
use Rattle.rail_model.specs.declared.edit.Rule.{Rule}
use Rattle.rail_model.specs.declared.tables.Tables.{Tables}

-- The answer is the rule that refuses the edit; or none does, and the tables are those after it. Where one does, and
-- where memory runs out, the tables stay as they were
pub record AnswersEdit (rule : Option Rule) (later : Tables) (result : Result (Result (Unit {0}) Rule) OutOfMemory) (old new : Tables) : Type 0 where
  pub refused : IfOk result (λ answer. IfErr answer (λ r. rule ≡ Some r))
  pub accepted : IfOk result (λ answer. OnOk answer (rule ≡ None))
  pub after : IfOk result (λ answer. OnOk answer (new ≡ later))
  pub kept : IfOk result (λ answer. OnErr answer (new ≡ old))
  pub kept_without_memory : OnErr result (new ≡ old)
