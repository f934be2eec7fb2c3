-- Turns of a session in one thread: sections are answered, and then a task is done.
use Rattle.std.specs.Prelude.{◌≡◌, ℕ, ◌<◌, ◌≤◌, List, [], ◌∷◌, ◌++◌, length, map, zip, All, Some}
use Rattle.rail_model.specs.Name.{IsBefore, NamesRise}
use Rattle.plan_model.specs.declared.answer.Answer.{Answer}
use Rattle.plan_model.specs.declared.scripts.Task.{Task}
use Rattle.plan_model.specs.declared.journal.Act.TheVariants as act
use Rattle.plan_model.specs.declared.journal.Entry.{Entry}
use Rattle.plan_model.specs.Journal.{opening, last_number, tables_of, task_of, done_by}
use Rattle.plan_model.specs.Legal.{IsCurrent, IsLegal}
use Rattle.plan_model.specs.Outcome.{IsPlanner, next_task, section_name}
use Rattle.plan_model.specs.Session.{IsPublicationAt, BringsUpToDate, tasks_in_turn}

-- ---- answers

-- an answer is published by pass 0
pub record IsPublication (e : Entry) : Type 0 where
  pub section : List ℕ
  pub at : ℕ
  pub answer : Answer
  pub pass : e.pass ≡ 0
  pub is : e.act ≡ act.Published section at answer

-- the answer of a section as it is after the last edit is published by pass 0
pub record PublishesNow (section : List ℕ) (found after : List Entry) : Type 0 where
  pub answer : Answer
  pub is : after ≡ found ++ record { pass = 0; act = act.Published section (last_number found) answer } ∷ []
  pub legal_found : IsLegal found
  pub legal : IsLegal after

-- publications by pass 0 make every section current
pub record HasCaughtUp (found after : List Entry) : Type 0 where
  pub publications : List Entry
  pub is : after ≡ found ++ publications
  pub up_to_date : BringsUpToDate found publications
  pub made : All IsPublication publications

-- some sections are made current so far, in the order of names: all whose numbers are below this one, which is no
-- less than the number of steps
pub record IsCatchingUp (steps : ℕ) (found now : List Entry) : Type 0 where
  pub publications : List Entry
  pub names : List (List ℕ)
  pub is : now ≡ found ++ publications
  pub count : length publications ≡ length names
  pub each : All (λ p. IsPublicationAt (last_number found) p.0 p.1) (zip names publications)
  pub rise : NamesRise (λ name. name) names
  pub made : All IsPublication publications
  pub below : ℕ
  pub least : steps ≤ below
  pub current : (n : ℕ) → n < below → n < length (tables_of now).sections → IsCurrent now (section_name now n)
  pub before : (n : ℕ) → below ≤ n → n < length (tables_of now).sections
      → All (λ name. IsBefore name (section_name now n)) names

-- ---- tasks

-- a task of a planner is done by pass 0, after every section was made current
pub record DoesTask (planner : ℕ) (task : Task) (found after : List Entry) : Type 0 where
  pub ready : List Entry
  pub caught_up : HasCaughtUp found ready
  pub is_planner : IsPlanner found planner
  pub entry : Entry
  pub is : after ≡ ready ++ entry ∷ []
  pub pass : entry.pass ≡ 0
  pub does : task_of planner entry.act ≡ Some task

-- it is the planner's next task
pub record DoesNextTask (planner : ℕ) (found after : List Entry) : Type 0 where
  pub task : Task
  pub next : next_task found planner ≡ Some task
  pub does : DoesTask planner task found after

-- these tasks are done, one after the other
abbrev pub DoesTasks : List Entry → List (ℕ × Task) → List Entry → Type 0
DoesTasks found [] after = after ≡ found
DoesTasks found ((planner, task) ∷ tasks) after =
    (between : List Entry) × DoesTask planner task found between × DoesTasks between tasks after

-- no planner has done a task
abbrev pub NothingIsDone : List Entry → Type 0
NothingIsDone journal = (planner : ℕ) → done_by journal planner ≡ []

-- all scripts are done, planner 1's first, and after them every section is made current
pub record DoesScripts (found after : List Entry) : Type 0 where
  pub done : List Entry
  pub tasks : DoesTasks found (tasks_in_turn (opening found).scripts) done
  pub caught_up : HasCaughtUp done after
  pub legal : IsLegal after

-- the tasks of a planner
abbrev pub by_planner : ℕ → List Task → List (ℕ × Task)
by_planner planner tasks = map (λ t. (planner, t)) tasks
