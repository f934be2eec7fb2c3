-- How a call may end: in a text, or in a refusal.
use Rattle.std.specs.Prelude.{◌≡◌, ℕ, List, [], ◌∷◌, codes, decimal}
use Rattle.rail_model.specs.declared.form.Form.TheVariants as form
use Rattle.row_text.specs.SheetRows.{text_of_row}
use Rattle.capacity_report.specs.Rows.{rule_text}
use Rattle.capacity_cmd.specs.Types.{Status, Cause}
use Rattle.capacity_cmd.specs.declared.status.Status.TheVariants as status
use Rattle.capacity_cmd.specs.declared.status.Cause.TheVariants as cause

-- a text to write, or the refusal of a row for a cause
pub data Outcome : Type 0 where
  Writes : List ℕ → Outcome
  Refuses : ℕ → Cause → Outcome

abbrev pub cause_text : Cause → List ℕ
cause_text (cause.Form form.Kind) = codes "kind"
cause_text (cause.Form form.Fields) = codes "fields"
cause_text (cause.Form form.Number) = codes "number"
cause_text (cause.Form form.BadName) = codes "name"
cause_text (cause.Form form.Order) = codes "order"
cause_text (cause.Rule r) = rule_text r
cause_text cause.TooLong = codes "too-long"
cause_text cause.NoSection = codes "no-section"
cause_text cause.NoMember = codes "no-member"
cause_text cause.Script = codes "script"

-- the text, or refused,ROW,CAUSE
abbrev pub outcome_text : Outcome → List ℕ
outcome_text (Writes text) = text
outcome_text (Refuses row why) = text_of_row (codes "refused" ∷ decimal row ∷ cause_text why ∷ [])

abbrev pub outcome_status : Outcome → Status
outcome_status (Writes text) = status.Done
outcome_status (Refuses row why) = status.Refused row why

-- the number with which the program ends
abbrev pub status_number : Status → ℕ
status_number status.Done = 0
status_number (status.Refused row why) = 1
status_number status.BadWords = 2
status_number status.ReadFault = 3
status_number status.WriteFault = 4
status_number status.OutOfMemory = 5

-- a text is written
abbrev pub EndsInText : (List ℕ → Type 0) → Outcome → Type 0
EndsInText IsText outcome = (text : List ℕ) × IsText text × (outcome ≡ Writes text)
