-- What a book keeps beside its journal, so that no call goes through the journal.
use Rattle.std.specs.Prelude.{◌≡◌, ℕ, ◌+◌, ◌<◌, ◌≤◌, ◌==◌, ◌⊎◌, if◌then◌else◌, false, List, length, slice_index_or, sum_by, None, Some, is_some}
use Rattle.rail_model.specs.declared.tables.Tables.{Tables}
use Rattle.plan_model.specs.declared.journal.Act.{Act}
use Rattle.plan_model.specs.declared.journal.Entry.{Entry}
use Rattle.plan_model.specs.declared.outcome.Asked.{Asked}
use Rattle.plan_model.specs.Journal.{Opening, opening, last_number, tables_of, issued, done_by, edit_of, publication_of, issues, task_of}
use Rattle.plan_model.specs.Legal.{IsJournal, IsReply}
use Rattle.plan_model.specs.declared.scripts.Task.{Task}
use Rattle.plan_model.specs.Outcome.{IsPlanner, next_task, reply_of, GivesLast}
use Rattle.plan_book.specs.declared.shelf.Shelf.{Shelf}
use Rattle.plan_book.specs.declared.book.TheConstants.{PLANNERS, TASKS, FIRST_NUMBER}
use Rattle.plan_book.specs.Shelves.{AreShelves}

-- a book opens with few planners, few tasks, and a number that leaves room for all edits to come
pub record IsWithin (o : Opening) : Type 0 where
  pub planners : length o.scripts ≤ PLANNERS
  pub tasks : sum_by length o.scripts ≤ TASKS
  pub at : o.at ≤ FIRST_NUMBER

-- how many tasks each planner has done
pub record AreDone (journal : List Entry) (done : List ℕ) : Type 0 where
  pub count : length done ≡ length (opening journal).scripts
  pub each : (k : ℕ) → k < length done → slice_index_or done k 0 ≡ length (done_by journal (k + 1))

-- a journal of planners, and beside it its tables, the opening's number, the last edit's, how many passes are issued,
-- what is known of sections, and how many tasks each planner has done
pub record IsBook (journal : List Entry) (tables : Tables) (first at passes : ℕ) (shelves : List Shelf) (done : List ℕ) : Type 0 where
  pub is_journal : IsJournal journal
  pub within : IsWithin (opening journal)
  pub tables_are : tables ≡ tables_of journal
  pub first_is : first ≡ (opening journal).at
  pub at_is : at ≡ last_number journal
  pub passes_are : passes ≡ issued journal
  pub shelves_are : AreShelves journal first shelves
  pub done_are : AreDone journal done

-- ---- entries

-- an act that makes no edit, publishes nothing and issues no pass
pub record IsQuiet (a : Act) : Type 0 where
  pub no_edit : edit_of a ≡ None
  pub no_publication : (name : List ℕ) → publication_of name a ≡ None
  pub no_pass : issues a ≡ false

-- an act does no task of a planner
abbrev pub IsOutside : Act → Type 0
IsOutside a = (planner : ℕ) → 1 ≤ planner → task_of planner a ≡ None

-- an act does a task of this planner, and of no other; of none where the planner is 0
abbrev pub IsBy : ℕ → Act → Type 0
IsBy planner a = (p : ℕ) → 1 ≤ p → is_some (task_of p a) ≡ (planner == p)

-- a task may be done outside the scripts, by planner 0, or as the next of a planner's script
abbrev pub MayDo : List Entry → ℕ → Task → Type 0
MayDo journal planner t = (planner ≡ 0) ⊎ (IsPlanner journal planner × (next_task journal planner ≡ Some t))

-- one task more is done by a planner; none is by planner 0
pub record IsCounted (planner : ℕ) (old new : List ℕ) : Type 0 where
  pub count : length new ≡ length old
  pub each : (k : ℕ) → k < length old
      → slice_index_or new k 0 ≡ slice_index_or old k 0 + (if planner == k + 1 then 1 else 0)

-- what a book gives to one who asks is the reply that the journal gives, with the answer that was published last
pub record IsAnswered (journal : List Entry) (section : List ℕ) (a : Asked) : Type 0 where
  pub reply : IsReply journal section (reply_of a)
  pub gives : GivesLast journal section a
