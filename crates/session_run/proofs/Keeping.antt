-- What the one who answers keeps of sections was read, from task to task.
use Rattle.std.proofs.Common.{◌≡◌, ℕ, List, ◌++◌, sym, subst}
use Rattle.std.proofs.lemmas.Option.{none-some}
use Rattle.plan_model.specs.declared.journal.Entry.{Entry}
use Rattle.plan_model.specs.declared.outcome.Stepped.{Stepped}
use Rattle.plan_model.specs.declared.outcome.Stepped.TheVariants as stepped
use Rattle.plan_model.specs.Outcome.{StepsTo}
use Rattle.section_worker.specs.Keeping.{Working, WasRead, KeepsWhatWasRead, new_worker}
use Rattle.section_worker.proofs.Keeps.{still_read}

-- a new worker keeps nothing
pub keeps_nothing : (share of actor : ℕ) (journal : List Entry) → KeepsWhatWasRead (new_worker share of actor) journal
keeps_nothing share of actor journal = λ section h is. absurd (none-some _ is)

-- what was read stays so in a longer journal
pub keeps_on : (w : Working) (found more after : List Entry) → after ≡ found ++ more → KeepsWhatWasRead w found
    → KeepsWhatWasRead w after
keeps_on w found more after is keeps =
    λ section h kept. subst (λ j. WasRead j section h) (sym is) (still_read found more section h (keeps section h kept))

-- a planner makes a step
pub keeps_stepping : (w : Working) (planner : ℕ) (found after : List Entry) (s : Stepped) → StepsTo 0 planner found s after
    → KeepsWhatWasRead w found → KeepsWhatWasRead w after
keeps_stepping w planner found after (stepped.Edited at) h keeps = keeps_on w found _ after h.edits.is keeps
keeps_stepping w planner found after (stepped.Refused rule) h keeps = keeps_on w found _ after h.edits.is keeps
keeps_stepping w planner found after (stepped.Asked a) h keeps = keeps_on w found _ after h.asks.adds.is keeps
keeps_stepping w planner found after stepped.Ended h keeps = subst (KeepsWhatWasRead w) (sym h.1) keeps
