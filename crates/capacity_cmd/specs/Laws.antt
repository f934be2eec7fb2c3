-- Laws of the promise, of the report of a session, and of the made line.
use Rattle.std.specs.Prelude.{◌≡◌, ◌⊎◌, ℕ, List, All, Some, Ok}
use Rattle.rail_model.specs.declared.tables.Tables.{Tables}
use Rattle.rail_outside.specs.InCall.{SourceInCall}
use Rattle.plan_model.specs.declared.scripts.Task.{Task}
use Rattle.plan_model.specs.declared.journal.Entry.{Entry}
use Rattle.plan_model.specs.Journal.{tables_of}
use Rattle.plan_model.specs.Session.{IsSession}
use Rattle.plan_book.specs.declared.book.TheConstants.{PLANNERS}
use Rattle.made_line.specs.Base.{base_edits, scripts_of_made, base_tables}
use Rattle.made_line.specs.Text.{made_text}
use Rattle.capacity_cmd.specs.Types.{Command}
use Rattle.capacity_cmd.specs.Input.{content_of_input}
use Rattle.capacity_cmd.specs.Outcome.{Outcome}
use Rattle.capacity_cmd.specs.OneOutcome.{IsLeftOpen}
use Rattle.capacity_cmd.specs.Ends.{EndsOn, IsJournalText, IsMadeText}
use Rattle.capacity_cmd.specs.Promise.{IsEnd}
use Rattle.capacity_cmd.specs.Published.{IsAnsweredLast, ReportsLast}
use Rattle.capacity_cmd.specs.MadeOne.{IsOneText}

-- the words and the input of a call leave one outcome: two outcomes of a command on one input are equal, but for what the
-- command leaves open
abbrev pub OutcomeIsOne : Type 0
OutcomeIsOne =
    (command : Command) (input : List ℕ) (outcome other : Outcome) → EndsOn command input outcome
    → EndsOn command input other → (outcome ≡ other) ⊎ IsLeftOpen command outcome other

-- where a source tells the bytes that it has left, the outcome of a call is that of the command on all of them
abbrev pub EndsOnAllLeft : {S : Type 0} → (S → S → SourceInCall S) → Type 0
EndsOnAllLeft source_of =
    (command : Command) (before after : _) (outcome : Outcome) (left : List ℕ)
    → let source = source_of before after in source.left source.before ≡ Some left → IsEnd command source outcome
    → EndsOn command left outcome

-- the text of the made line says to a session the edits of its base, the scripts of its planners and the tables of the base;
-- no row of it is refused
abbrev pub SaysMadeLine : ℕ → Type 0
SaysMadeLine n =
    content_of_input PLANNERS (made_text n)
    ≡ Ok (record { spelling = record { base = base_edits n; scripts = scripts_of_made n }; tables = base_tables n })

-- in the journal of a session each section of the end was published, and the answer of its last publication is that of
-- its cut then
abbrev pub LastPublicationsAnswer : Type 0
LastPublicationsAnswer =
    (tables : Tables) (at : ℕ) (scripts : List (List Task)) (workers : ℕ) (journal : List Entry)
    → IsSession tables at scripts workers journal → All (IsAnsweredLast journal) (tables_of journal).sections

-- in the text of this journal the report has the heads of the last publications
abbrev pub ReportIsOfLast : Type 0
ReportIsOfLast =
    (tables : Tables) (at : ℕ) (scripts : List (List Task)) (workers : ℕ) (journal : List Entry) (text : List ℕ)
    → IsSession tables at scripts workers journal → IsJournalText journal text → ReportsLast journal text

-- there is one text of `made` for a number: in whatever order its session goes, it tells of the same tables
abbrev pub MadeIsOne : Type 0
MadeIsOne = (n : ℕ) (text : List ℕ) → IsMadeText n text → IsOneText n text
