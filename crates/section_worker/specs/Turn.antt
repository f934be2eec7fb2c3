-- What one turn of a worker does, and what it answers.
use Rattle.std.specs.Prelude.{◌≡◌, ◌⊎◌, ℕ, ◌≤◌, List, Result, Ok, Err, MatchResult}
use Rattle.rail_model.specs.declared.memory.OutOfMemory.{OutOfMemory}
use Rattle.plan_model.specs.declared.answer.Answer.{Answer}
use Rattle.plan_model.specs.declared.answer.Done.{Done}
use Rattle.plan_model.specs.declared.cut.Cut.{Cut}
use Rattle.plan_model.specs.Reading.{Shown}
use Rattle.plan_model.specs.declared.journal.Act.TheVariants as act
use Rattle.plan_model.specs.declared.journal.Entry.{Entry}
use Rattle.plan_model.specs.declared.outcome.NotTaken.{NotTaken}
use Rattle.plan_model.specs.declared.outcome.NotTaken.TheVariants as not_taken
use Rattle.plan_model.specs.Journal.{last_number, tasks_left}
use Rattle.plan_model.specs.Legal.{IsJournal, WasPublishedAt, IsTouchedSince, IsCurrentSince}
use Rattle.plan_model.specs.Call.{GoesOn}
use Rattle.plan_model.specs.Outcome.{AddsEntry, IsOfShare, section_name, ShareIsCurrent, IsNextReading, PublishesTo}
use Rattle.plan_model.specs.Board.{Access, IsAccess, KeepsCounts}
use Rattle.section_worker.specs.declared.worker.Turned.{Turned}
use Rattle.section_worker.specs.declared.worker.Turned.TheVariants as turned
use Rattle.section_worker.specs.Keeping.{Working, kept_for, uses_missing, KeepsRows, Forgets}

-- two boards are access of one pass to one journal, whatever they have seen of it
pub record IsSameBoard (old new : Access) : Type 0 where
  pub access : IsAccess new
  pub journal : new.journal ≡ old.journal
  pub pass : new.pass ≡ old.pass
  pub numbers : new.numbers ≡ old.numbers

-- a section is of a worker's share: its number in the journal leaves the worker's rest on division
pub record IsOwn (w : Working) (journal : List Entry) (section : List ℕ) : Type 0 where
  pub number : ℕ
  pub of_share : IsOfShare w.share w.of journal number
  pub name : section ≡ section_name journal number

-- What a turn reads: it finds the journal, which is what was seen and then entries of others, and reads the next
-- section of the worker's share. What it publishes is of this section. The last edit before the reading is none before
-- the last that was seen
pub record Reads (w : Working) (old : Access) : Type 0 where
  pub found : List Entry
  pub goes_on : GoesOn old.numbers old.seen found
  pub is_journal : IsJournal found
  pub cut : Cut
  pub at : ℕ
  pub next : IsNextReading w.share w.of found (record { cut = cut; at = at; taken = 0 })
  pub own : IsOwn w found cut.section.name
  pub since : last_number old.seen ≤ at

-- the answer that a publication gives
abbrev pub turned_of : List ℕ → ℕ → Result (Unit {0}) NotTaken → Turned
turned_of section at (Ok u) = turned.Published section at
turned_of section at (Err (not_taken.Stale by)) = turned.Stale section at by
turned_of section at (Err (not_taken.Current last)) = turned.Current section last

-- a publication is made, or not, and the turn ends so
abbrev pub TurnsOut : ℕ → Done → List Entry → Turned → List Entry → Type 0
TurnsOut pass done found t after = (published : Result (Unit {0}) NotTaken)
    × (t ≡ turned_of done.section done.at published) × PublishesTo pass done found published after

-- an answer of a reading, as it is published
abbrev pub done_of : Shown → Answer → Done
done_of shown answer = record { section = shown.cut.section.name; at = shown.at; answer = answer }

module _ {w : Working} {old : Access} (reads : Reads w old) (seen : List Entry) where
  -- the answer of what was read is published by an entry of the pass
  pub record Publishes (section : List ℕ) (at : ℕ) : Type 0 where
    pub of_section : section ≡ reads.cut.section.name
    pub at_reading : at ≡ reads.at
    pub before : List Entry
    pub goes_on : GoesOn old.numbers reads.found before
    pub answer : Answer
    pub adds : AddsEntry old.pass (act.Published section at answer) before seen

  -- a later edit touches the section that was read, the last one by this number, and the turn adds no entry
  pub record WasStale (section : List ℕ) (at by : ℕ) : Type 0 where
    pub of_section : section ≡ reads.cut.section.name
    pub at_reading : at ≡ reads.at
    pub goes_on : GoesOn old.numbers reads.found seen
    pub touched : IsTouchedSince seen section at by

  -- the section that was read is current, since a publication that was made after the reading, and the turn adds no entry
  pub record WasCurrent (section : List ℕ) (last : ℕ) : Type 0 where
    pub of_section : section ≡ reads.cut.section.name
    pub goes_on : GoesOn old.numbers reads.found seen
    pub current : IsCurrentSince seen section last
    pub by_others : WasPublishedAt goes_on.more section last

  -- what comes of a reading
  abbrev pub EndsAs : Turned → Type 0
  EndsAs (turned.Published section at) = Publishes section at
  EndsAs (turned.Stale section at by) = WasStale section at by
  EndsAs (turned.Current section last) = WasCurrent section last
  EndsAs (turned.Idle left) = ⊥

-- a turn with a reading: the reading's rows are kept, and of those rows that weren't kept with their name and stamp all
-- uses are taken at most
pub record Answers (w later : Working) (old new : Access) (t : Turned) : Type 0 where
  pub reads : Reads w old
  pub ends : EndsAs reads new.seen t
  pub keeps : KeepsRows reads.cut reads.at w later
  pub handed : new.handed ≤ uses_missing (kept_for w reads.cut.section.name) reads.cut

-- a turn with a reading that finds no memory: nothing is added, and nothing is kept of the section
pub record Fails (w later : Working) (old new : Access) : Type 0 where
  pub goes_on : GoesOn old.numbers old.seen new.seen
  pub reads : Reads w old
  pub forgets : Forgets reads.cut.section.name w later

-- what comes of a reading
abbrev pub WorksTo : Working → Working → Access → Access → Result Turned OutOfMemory → Type 0
WorksTo w later old new result = MatchResult result (Answers w later old new) (λ _. Fails w later old new)

-- a turn to which no reading is given: nothing is added, and what is kept stays
pub record ReadsNothing (w later : Working) (old new : Access) : Type 0 where
  pub goes_on : GoesOn old.numbers old.seen new.seen
  pub counts : KeepsCounts old new
  pub keeps : later ≡ w

-- such a turn, where all sections of the share are current and so many tasks are left
pub record Rests (w later : Working) (old new : Access) (left : ℕ) : Type 0 where
  pub nothing : ReadsNothing w later old new
  pub current : ShareIsCurrent w.share w.of new.seen
  pub left_is : left ≡ tasks_left new.seen

-- what a turn does
abbrev pub TurnsTo : Working → Working → Access → Access → Result Turned OutOfMemory → Type 0
TurnsTo w later old new (Ok (turned.Idle left)) = Rests w later old new left
TurnsTo w later old new (Ok t) = Answers w later old new t
TurnsTo w later old new (Err e) = ReadsNothing w later old new ⊎ Fails w later old new
