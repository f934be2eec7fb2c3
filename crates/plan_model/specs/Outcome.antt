-- What each call by a pass does to the journal that it finds, and what it answers.
use Rattle.std.specs.Prelude.{◌≡◌, ℕ, ◌%◌, ◌<◌, ◌≤◌, List, [], ◌∷◌, ◌++◌, length, slice_get, Option, None, Some, Result, Ok, Err}
use Rattle.rail_model.specs.declared.edit.Edit.{Edit}
use Rattle.rail_model.specs.declared.edit.Rule.{Rule}
use Rattle.rail_model.specs.Tables.{section_at}
use Rattle.plan_model.specs.Types.{Done, Task, Reply, Act, Entry, Asked, Stepped, Next, NotTaken}
use Rattle.plan_model.specs.declared.scripts.Task.TheVariants as task
use Rattle.plan_model.specs.declared.journal.Reply.TheVariants as reply
use Rattle.plan_model.specs.declared.journal.Act.TheVariants as act
use Rattle.plan_model.specs.declared.outcome.Asked.TheVariants as asked
use Rattle.plan_model.specs.declared.outcome.Stepped.TheVariants as stepped
use Rattle.plan_model.specs.declared.outcome.Next.TheVariants as next
use Rattle.plan_model.specs.declared.outcome.NotTaken.TheVariants as not_taken
use Rattle.plan_model.specs.Answer.{IsAnswer}
use Rattle.plan_model.specs.Reading.{Shown}
use Rattle.plan_model.specs.Journal.{opening, last_number, tables_of, last_publication, left_of, tasks_left}
use Rattle.plan_model.specs.Legal.{IsUntouchedSince, IsCurrent, IsReading, IsAnswerAt, IsTouchedSince, IsCurrentSince, IsNext}

-- a call adds this one entry, which is a legal next one
pub record AddsEntry (pass : ℕ) (a : Act) (found after : List Entry) : Type 0 where
  pub next : IsNext found (record { pass = pass; act = a })
  pub is : after ≡ found ++ record { pass = pass; act = a } ∷ []

-- ---- edits and questions

-- an edit is made and gets the next number, or is refused by the first rule that refuses it
abbrev pub EditsTo : ℕ → ℕ → Edit → List Entry → Result ℕ Rule → List Entry → Type 0
EditsTo pass planner edit found (Ok at) after = AddsEntry pass (act.Edited planner at edit) found after
EditsTo pass planner edit found (Err rule) after = AddsEntry pass (act.Refused planner rule edit) found after

-- what an entry says of an answer that was asked for
abbrev pub reply_of : Asked → Reply
reply_of (asked.Ready at answer) = reply.Ready at
reply_of (asked.Stale at by) = reply.Stale at by
reply_of asked.NotYet = reply.NotYet
reply_of asked.Unknown = reply.Unknown

-- an answer that is ready is the one that was published last
abbrev pub GivesLast : List Entry → List ℕ → Asked → Type 0
GivesLast found section (asked.Ready at answer) =
    last_publication found section ≡ Some (record { at = at; answer = answer })
GivesLast found section a = Unit {0}

-- a section is asked for, and gets its reply
pub record AsksTo (pass planner : ℕ) (section : List ℕ) (found : List Entry) (a : Asked) (after : List Entry) : Type 0 where
  pub adds : AddsEntry pass (act.Asked planner section (reply_of a)) found after
  pub gives : GivesLast found section a

-- ---- steps

-- a planner has a script
pub record IsPlanner (journal : List Entry) (planner : ℕ) : Type 0 where
  pub from_one : 1 ≤ planner
  pub to_last : planner ≤ length (opening journal).scripts

-- the next task of a planner, if one is left
abbrev pub next_task : List Entry → ℕ → Option Task
next_task journal planner = slice_get (left_of journal planner) 0

-- a planner's next task is an edit, which is made or refused
pub record EditsNext (pass planner : ℕ) (found : List Entry) (made : Result ℕ Rule) (after : List Entry) : Type 0 where
  pub edit : Edit
  pub next : next_task found planner ≡ Some (task.Edit edit)
  pub edits : EditsTo pass planner edit found made after

-- a planner's next task is a question about a section, which gets its reply
pub record AsksNext (pass planner : ℕ) (found : List Entry) (a : Asked) (after : List Entry) : Type 0 where
  pub section : List ℕ
  pub next : next_task found planner ≡ Some (task.Ask section)
  pub asks : AsksTo pass planner section found a after

-- a planner's next task is done; or none is left, and nothing is done
abbrev pub StepsTo : ℕ → ℕ → List Entry → Stepped → List Entry → Type 0
StepsTo pass planner found (stepped.Edited at) after = EditsNext pass planner found (Ok at) after
StepsTo pass planner found (stepped.Refused rule) after = EditsNext pass planner found (Err rule) after
StepsTo pass planner found (stepped.Asked a) after = AsksNext pass planner found a after
StepsTo pass planner found stepped.Ended after = (next_task found planner ≡ None) × (after ≡ found)

-- ---- readings

-- the name of the section with a number, from 0 in the order of names
abbrev pub section_name : List Entry → ℕ → List ℕ
section_name journal number = (section_at (tables_of journal) number).name

-- a number is that of a section of a share: it leaves this rest on division
pub record IsOfShare (share of : ℕ) (journal : List Entry) (number : ℕ) : Type 0 where
  pub there : number < length (tables_of journal).sections
  pub rest : number % of ≡ share

-- every section of a share is current
abbrev pub ShareIsCurrent : ℕ → ℕ → List Entry → Type 0
ShareIsCurrent share of journal =
    (number : ℕ) → IsOfShare share of journal number → IsCurrent journal (section_name journal number)

-- a reading of the first section of a share, by name, that is not current
pub record IsNextReading (share of : ℕ) (journal : List Entry) (shown : Shown) : Type 0 where
  pub number : ℕ
  pub of_share : IsOfShare share of journal number
  pub wanted : IsCurrent journal (section_name journal number) → ⊥
  pub first : (n : ℕ) → n < number → IsOfShare share of journal n → IsCurrent journal (section_name journal n)
  pub reading : IsReading journal (section_name journal number) shown.cut
  pub at : shown.at ≡ last_number journal
  pub untaken : shown.taken ≡ 0

-- the next section of a share is read, or all are current and so many tasks are left; nothing is added
abbrev pub ReadsTo : {R : Type 0} → (R → Shown) → ℕ → ℕ → List Entry → Next R → List Entry → Type 0
ReadsTo shown share of found (next.Reading r) after = (after ≡ found) × IsNextReading share of found (shown r)
ReadsTo shown share of found (next.Idle left) after =
    (after ≡ found) × ShareIsCurrent share of found × (left ≡ tasks_left found)

-- ---- publications

-- this is the answer of what a reading shows
pub record IsAnswerOf (shown : Shown) (done : Done) : Type 0 where
  pub section : done.section ≡ shown.cut.section.name
  pub at : done.at ≡ shown.at
  pub answer : IsAnswer shown.cut done.answer

-- an answer was worked out from the section's cut after the edit that it names
abbrev pub IsDone : List Entry → Done → Type 0
IsDone journal done = IsAnswerAt journal done.section done.at done.answer

-- why an answer is not published: a later edit touches its section, the last one by this number; or none does, and the
-- section is current since its last publication
abbrev pub IsNotTaken : List Entry → Done → NotTaken → Type 0
IsNotTaken journal done (not_taken.Stale by) = IsTouchedSince journal done.section done.at by
IsNotTaken journal done (not_taken.Current at) =
    IsUntouchedSince journal done.section done.at × IsCurrentSince journal done.section at

-- an answer is published; or, for the reason given, it is not, and nothing is added
abbrev pub PublishesTo : ℕ → Done → List Entry → Result (Unit {0}) NotTaken → List Entry → Type 0
PublishesTo pass done found (Ok u) after = AddsEntry pass (act.Published done.section done.at done.answer) found after
PublishesTo pass done found (Err why) after = (after ≡ found) × IsNotTaken found done why
