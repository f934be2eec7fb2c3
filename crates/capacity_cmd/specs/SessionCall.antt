-- What a call with the words `session W` has done where it ends with status 0.
use Rattle.std.specs.Prelude.{◌≡◌, ℕ, List, [], ◌∷◌, ◌++◌, length, map, codes, All, Some, Ok}
use Rattle.std.specs.List.{range_with_len}
use Rattle.rail_model.specs.declared.tables.Tables.{Tables}
use Rattle.rail_outside.specs.InCall.{SourceInCall, SinkInCall, Gave, IsReadToEnd, IsWritten}
use Rattle.plan_model.specs.declared.answer.Answer.{Answer}
use Rattle.plan_model.specs.declared.scripts.Task.{Task}
use Rattle.plan_model.specs.declared.journal.Act.TheVariants as act
use Rattle.plan_model.specs.declared.journal.Entry.{Entry}
use Rattle.plan_model.specs.Journal.{task_of, done_by}
use Rattle.plan_model.specs.Legal.{IsLegal}
use Rattle.plan_model.specs.Session.{actors, opened, entered, IsByPlanner, IsByWorker, AllAreCurrent}
use Rattle.plan_book.specs.declared.book.TheConstants.{PLANNERS}
use Rattle.capacity_cmd.specs.declared.status.Status.TheVariants.{Done}
use Rattle.capacity_cmd.specs.Command.{workers_in}
use Rattle.capacity_cmd.specs.Input.{Content, content_of_input}
use Rattle.capacity_cmd.specs.Ends.{IsJournalText}
use Rattle.capacity_cmd.specs.Promise.{Answers}

-- where an entry does a task, it is made by the pass of the planner whose task it is; without workers all are made by pass 0
abbrev pub IsByItsPlanner : ℕ → ℕ → Entry → Type 0
IsByItsPlanner planners workers e =
    (planner : ℕ) (t : Task) → task_of planner e.act ≡ Some t → IsByPlanner planners workers planner e.pass

-- where an entry publishes an answer, it is made by the pass of a worker; without workers by pass 0
abbrev pub IsBySomeWorker : ℕ → ℕ → Entry → Type 0
IsBySomeWorker planners workers e =
    (section : List ℕ) (at : ℕ) (answer : Answer) → e.act ≡ act.Published section at answer → IsByWorker planners workers e.pass

-- the journal of a session over tables, the number of the last edit that made them, planners' scripts and so many workers
pub record IsSessionJournal (tables : Tables) (at : ℕ) (scripts : List (List Task)) (workers : ℕ) (journal : List Entry) : Type 0 where
  pub rest : List Entry
  -- it opens with them, and issues a pass to each planner and each worker
  pub opens : journal ≡ opened tables at scripts ∷ entered (actors (length scripts) workers) ++ rest
  -- each entry is legal after those before it
  pub legal : IsLegal journal
  -- the tasks of each planner are done, each once and in order
  pub tasks : map (done_by journal) (range_with_len 1 (length scripts)) ≡ scripts
  pub by_planner : All (IsByItsPlanner (length scripts) workers) rest
  pub by_worker : All (IsBySomeWorker (length scripts) workers) rest
  -- in the end every section is current
  pub current : AllAreCurrent journal

module _ {S K : Type 0} where
  -- the journal of a session with so many workers is written
  pub record WritesJournal (workers : ℕ) (source : SourceInCall S) (sink : SinkInCall K) : Type 0 where
    -- the input is all that reads gave in the call, up to the end
    pub input : List ℕ
    pub gave : Gave source input
    pub to_end : IsReadToEnd source
    -- it says the tables of a line and planners' scripts
    pub content : Content
    pub says : content_of_input PLANNERS input ≡ Ok content
    -- a journal of their session
    pub journal : List Entry
    pub is : IsSessionJournal content.tables (length content.spelling.base) content.spelling.scripts workers journal
    -- its rows, and the report of the tables at its end, are written and flushed
    pub text : List ℕ
    pub text_is : IsJournalText journal text
    pub written : IsWritten sink text

  -- so does each call with the words `session W` that ends with status 0
  abbrev pub SessionWritesJournal : (S → S → SourceInCall S) → (K → K → SinkInCall K) → Type 0
  SessionWritesJournal source_of sink_of =
      (word : List ℕ) (workers : ℕ) (source source' : S) (sink sink' : K) → workers_in word ≡ Some workers
      → Answers (codes "session" ∷ word ∷ []) Done (source_of source source') (sink_of sink sink')
      → WritesJournal workers (source_of source source') (sink_of sink sink')
