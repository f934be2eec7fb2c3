-- What a worker keeps stays read while its journal goes on.
use Rattle.std.proofs.Common.{ℕ, List, sym, subst}
use Rattle.plan_model.specs.declared.journal.Entry.{Entry}
use Rattle.plan_model.specs.Call.{Calls}
use Rattle.section_worker.specs.Keeping.{Working, KeepsWhatWasRead, WasRead}
use Rattle.section_worker.proofs.Keeps.{still_read, still_kept}

-- a call of the board leaves it so
pub kept_through : (w : Working) (pass : ℕ) (numbers : List ℕ) (seen later : List Entry)
    → Calls pass numbers seen later → KeepsWhatWasRead w seen → KeepsWhatWasRead w later
kept_through w pass numbers seen later c keeps = λ section h is.
    subst (λ j. WasRead j section h) (sym c.adds_own.is)
    (still_read c.found c.adds_own.own section h
    (still_kept w numbers seen c.found c.goes_on keeps section h is))
