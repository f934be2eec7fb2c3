-- Laws of journals.
use Rattle.std.specs.Prelude.{◌≡◌, ◌↔◌, ℕ, ◌<◌, ◌≤◌, List, [], ◌∷◌, ◌++◌, length, Some, Result, Contains, AllPairs}
use Rattle.rail_model.specs.declared.edit.Edit.{Edit}
use Rattle.rail_model.specs.declared.edit.Rule.{Rule}
use Rattle.rail_model.specs.declared.tables.Tables.{Tables}
use Rattle.rail_model.specs.Rules.{IsSound}
use Rattle.plan_model.specs.Types.{CutRow, Cut, Done, Task, Entry, Asked, Stepped, Next, NotTaken}
use Rattle.plan_model.specs.declared.journal.Act.TheVariants as act
use Rattle.plan_model.specs.Answer.{IsAnswer}
use Rattle.plan_model.specs.Journal.{edits, last_number, tables_at, tables_of, publications, issued, done_by, script_of, tasks_left}
use Rattle.plan_model.specs.Legal.{Stays, cut_at, cut_now, Touches, IsUntouchedSince, IsCurrent, IsReading, IsNext, IsLegal, IsJournal}
use Rattle.plan_model.specs.Session.{IsSessionAlone}
use Rattle.plan_model.specs.Reading.{Shown}
use Rattle.plan_model.specs.Outcome.{AddsEntry, EditsTo, AsksTo, IsPlanner, StepsTo, IsNextReading, ReadsTo, IsAnswerOf, IsDone, PublishesTo}

-- ---- beginnings of journals

-- each beginning of a legal journal, with an entry at least, is legal; and of a journal of planners likewise
abbrev pub BeginningIsLegal : Type 0
BeginningIsLegal = (e : Entry) (xs ys : List Entry) → IsLegal (e ∷ xs ++ ys) → IsLegal (e ∷ xs)

abbrev pub BeginningIsJournal : Type 0
BeginningIsJournal = (e : Entry) (xs ys : List Entry) → IsJournal (e ∷ xs ++ ys) → IsJournal (e ∷ xs)

-- each entry of a legal journal but the first is a legal next one after those before it
abbrev pub EachIsNext : Type 0
EachIsNext =
    (journal : List Entry) (e : Entry) (later : List Entry) → 0 < length journal
    → IsLegal (journal ++ e ∷ later) → IsNext journal e

-- a legal journal with a legal next entry is legal
abbrev pub NextIsLegal : Type 0
NextIsLegal = (journal : List Entry) (e : Entry) → IsLegal journal → IsNext journal e → IsLegal (journal ++ e ∷ [])

-- a longer journal has issued no fewer passes
abbrev pub LongerIssuesNoFewer : Type 0
LongerIssuesNoFewer = (journal more : List Entry) → issued journal ≤ issued (journal ++ more)

-- ---- tables

-- the tables of a legal journal are sound, after each edit
pub record HasSoundTables (journal : List Entry) : Type 0 where
  pub now : IsSound (tables_of journal)
  pub each : (number : ℕ) → IsSound (tables_at journal number)

abbrev pub TablesAreSound : Type 0
TablesAreSound = (journal : List Entry) → IsLegal journal → HasSoundTables journal

-- a longer journal has the same tables and cuts up to the last edit of the shorter
pub record AgreesUpTo (last : ℕ) (journal longer : List Entry) : Type 0 where
  pub tables : (number : ℕ) → number ≤ last → tables_at longer number ≡ tables_at journal number
  pub cuts : (section : List ℕ) (number : ℕ) → number ≤ last
      → cut_at longer section number ≡ cut_at journal section number

abbrev pub LongerAgrees : Type 0
LongerAgrees =
    (journal more : List Entry) → 0 < length journal → AgreesUpTo (last_number journal) journal (journal ++ more)

-- entries that make no edit leave the tables, the number of the last edit and all cuts
pub record KeepsTables (journal longer : List Entry) : Type 0 where
  pub number : last_number longer ≡ last_number journal
  pub tables : tables_of longer ≡ tables_of journal
  pub cuts : (section : List ℕ) (number : ℕ) → cut_at longer section number ≡ cut_at journal section number

abbrev pub OthersKeepTables : Type 0
OthersKeepTables =
    (journal more : List Entry) → 0 < length journal → edits more ≡ [] → KeepsTables journal (journal ++ more)

-- ---- sections

-- no edit after one number, up to the last edit, touches the section
abbrev pub NoneTouchesSince : List Entry → List ℕ → ℕ → Type 0
NoneTouchesSince journal section at =
    (number : ℕ) → at < number → number ≤ last_number journal → Touches journal section number → ⊥

-- a section is untouched since an edit just where no later edit touches it
abbrev pub UntouchedIsNoneTouches : Type 0
UntouchedIsNoneTouches =
    (journal : List Entry) (section : List ℕ) (at : ℕ)
    → IsUntouchedSince journal section at ↔ NoneTouchesSince journal section at

-- of two publications of one section, the later speaks of a later edit
abbrev pub PublicationsRise : Type 0
PublicationsRise =
    (journal : List Entry) (section : List ℕ) → IsLegal journal
    → AllPairs (λ p q. p.at < q.at) (publications journal section)

-- a section that is current stays current by entries of which none makes an edit that touches it
abbrev pub CurrentStays : Type 0
CurrentStays =
    (journal more : List Entry) (section : List ℕ) → 0 < length journal → IsLegal (journal ++ more)
    → IsCurrent journal section
    → Stays (cut_at (journal ++ more) section) (last_number journal) (last_number (journal ++ more))
    → IsCurrent (journal ++ more) section

-- the last published answer of a current section that is there is that of its cut as it is now
pub record IsAnswerNow (journal : List Entry) (section : List ℕ) (current : IsCurrent journal section) : Type 0 where
  pub cut : Cut
  pub there : cut_now journal section ≡ Some cut
  pub is_answer : IsAnswer cut current.publication.answer

abbrev pub CurrentIsAnswered : Type 0
CurrentIsAnswered =
    (journal : List Entry) (section : List ℕ) → IsLegal journal → (current : IsCurrent journal section)
    → IsAnswerNow journal section current

-- in two readings of a section, of a journal and of a longer one, rows of equal name and stamp are equal
abbrev pub StampTellsRow : Type 0
StampTellsRow =
    (journal more : List Entry) (section : List ℕ) (one other : Cut) (row later : CutRow)
    → IsLegal journal → IsLegal (journal ++ more)
    → IsReading journal section one → IsReading (journal ++ more) section other
    → Contains one.rows row → Contains other.rows later
    → row.name ≡ later.name → row.stamp ≡ later.stamp → row ≡ later

-- ---- scripts

-- where no task is left, each planner has done its script
abbrev pub NoneIsLeft : Type 0
NoneIsLeft =
    (journal : List Entry) (planner : ℕ) → IsJournal journal → tasks_left journal ≡ 0 → IsPlanner journal planner
    → done_by journal planner ≡ script_of journal planner

-- ---- answers of calls

-- an edit, a question of a section, a step, a reading and a publication each end in one way, by the journal that the call
-- finds: a refusal comes where it may come, and nowhere else. A reading is told by what it shows: the cut with its stamps,
-- and the number of the last edit
pub record EndsInOneWay (found : List Entry) : Type 0 where
  pub edit : (pass planner : ℕ) (edit : Edit) (one other : Result ℕ Rule) (after later : List Entry)
      → EditsTo pass planner edit found one after → EditsTo pass planner edit found other later → one ≡ other
  pub ask : (pass planner : ℕ) (section : List ℕ) (one other : Asked) (after later : List Entry)
      → AsksTo pass planner section found one after → AsksTo pass planner section found other later → one ≡ other
  pub step : (pass planner : ℕ) (one other : Stepped) (after later : List Entry)
      → StepsTo pass planner found one after → StepsTo pass planner found other later → one ≡ other
  pub read_next : (share of : ℕ) (one other : Next Shown) (after later : List Entry)
      → ReadsTo (λ shown. shown) share of found one after → ReadsTo (λ shown. shown) share of found other later
      → one ≡ other
  pub publish : (pass : ℕ) (done : Done) (one other : Result (Unit {0}) NotTaken) (after later : List Entry)
      → IsDone found done → PublishesTo pass done found one after → PublishesTo pass done found other later
      → one ≡ other

abbrev pub CallsEndInOneWay : Type 0
CallsEndInOneWay = (found : List Entry) → IsLegal found → EndsInOneWay found

-- after each call on a journal of planners it is such a journal again: outside the scripts, by the next task of a
-- planner, by a publication, and where a pass is issued
pub record LeavesJournal (found after : List Entry) : Type 0 where
  pub edit : (pass : ℕ) (edit : Edit) (r : Result ℕ Rule) → EditsTo pass 0 edit found r after → IsJournal after
  pub ask : (pass : ℕ) (section : List ℕ) (a : Asked) → AsksTo pass 0 section found a after → IsJournal after
  pub step : (pass planner : ℕ) (s : Stepped) → IsPlanner found planner → StepsTo pass planner found s after
      → IsJournal after
  pub publish : (pass : ℕ) (done : Done) (r : Result (Unit {0}) NotTaken) → PublishesTo pass done found r after
      → IsJournal after
  pub enter : (pass number : ℕ) → AddsEntry pass (act.Entered number) found after → IsJournal after

abbrev pub CallsLeaveJournals : Type 0
CallsLeaveJournals = (found after : List Entry) → IsJournal found → LeavesJournal found after

-- the answer of the next reading of a journal is one that may be published
abbrev pub ReadingMayBePublished : Type 0
ReadingMayBePublished =
    (share of : ℕ) (journal : List Entry) (shown : Shown) (done : Done)
    → IsNextReading share of journal shown → IsAnswerOf shown done → IsDone journal done

-- an answer that may be published of a journal is that of its section also in a longer one
abbrev pub DoneStays : Type 0
DoneStays = (journal more : List Entry) (done : Done) → 0 < length journal → IsDone journal done → IsDone (journal ++ more) done

-- ---- sessions

-- tables, the number of the last edit before the session, and scripts determine the journal of a session without workers
abbrev pub SessionAloneIsOne : Type 0
SessionAloneIsOne =
    (tables : Tables) (at : ℕ) (scripts : List (List Task)) (journal other : List Entry)
    → IsSessionAlone tables at scripts journal → IsSessionAlone tables at scripts other → journal ≡ other
