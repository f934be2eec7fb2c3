-- First answers of sections, worked out side by side before they are published.
use Rattle.std.specs.Prelude.{◌≡◌, ℕ, ◌<◌, List, ◌++◌, length, slice_index_or, All, IfSome}
use Rattle.plan_model.specs.declared.answer.Answer.{Answer}
use Rattle.plan_model.specs.declared.answer.Done.{Done}
use Rattle.plan_model.specs.declared.journal.Entry.{Entry}
use Rattle.plan_model.specs.Answer.{IsAnswer}
use Rattle.plan_model.specs.Reading.{Shown}
use Rattle.plan_model.specs.Journal.{last_number}
use Rattle.plan_model.specs.Legal.{IsLegal, IsReading}
use Rattle.plan_model.specs.Outcome.{IsDone}
use Rattle.section_worker.specs.declared.worker.KeptReading.{KeptReading}
use Rattle.section_worker.specs.Keeping.{kept_reading}
use Rattle.session_run.specs.declared.ahead.Ahead.{Ahead}

-- a reading is of a beginning of the journal
pub record WasShown (journal : List Entry) (shown : Shown) : Type 0 where
  pub found : List Entry
  pub more : List Entry
  pub is : journal ≡ found ++ more
  pub legal : IsLegal found
  pub reading : IsReading found shown.cut.section.name shown.cut
  pub at : shown.at ≡ last_number found

-- what is to be kept of a section and its answer, and both are those of its reading
abbrev pub AreOf : Shown → KeptReading × Answer → Type 0
AreOf shown both = (both.0 ≡ kept_reading shown) × IsAnswer shown.cut both.1

-- if there is an answer, it is that of the reading, and what is to be kept of the section is the reading's
abbrev pub IsRight : Ahead → Type 0
IsRight a = IfSome a.done (AreOf a.reading)

-- a section is answered, unless memory ran out; its reading stays
pub record IsWorkedOut (old new : Ahead) : Type 0 where
  pub cut : new.reading.cut ≡ old.reading.cut
  pub at : new.reading.at ≡ old.reading.at
  pub right : IsRight new

-- each of some sections is answered
pub record AreWorkedOut (old new : List Ahead) : Type 0 where
  pub count : length new ≡ length old
  pub each : (i : ℕ) (d : Ahead) → i < length old → IsWorkedOut (slice_index_or old i d) (slice_index_or new i d)

-- a section was read and answered
pub record IsAhead (journal : List Entry) (a : Ahead) : Type 0 where
  pub shown : WasShown journal a.reading
  pub right : IsRight a

-- so were all of these
abbrev pub AreAhead : List Entry → List Ahead → Type 0
AreAhead journal all = All (IsAhead journal) all

-- an answer that may be published of the section that was read now
pub record IsDoneNow (journal : List Entry) (shown : Shown) (done : Done) : Type 0 where
  pub section : done.section ≡ shown.cut.section.name
  pub at : done.at ≡ shown.at
  pub is_done : IsDone journal done
