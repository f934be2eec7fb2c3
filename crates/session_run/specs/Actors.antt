-- Who acts in a session on threads, and what is kept of the pass of an actor. Each fact of a seen part is one that a
-- longer journal keeps.
use Rattle.std.specs.Prelude.{◌≡◌, ℕ, ◌-◌, ◌<◌, ◌≤◌, nat_le, if◌then◌else◌, Bool, true, List, [], ◌∷◌, ◌++◌, length, All, Contains, Some}
use Rattle.plan_model.specs.declared.answer.Answer.{Answer}
use Rattle.plan_model.specs.declared.scripts.Task.{Task}
use Rattle.plan_model.specs.declared.journal.Act.{Act}
use Rattle.plan_model.specs.declared.journal.Act.TheVariants as act
use Rattle.plan_model.specs.declared.journal.Entry.{Entry}
use Rattle.plan_model.specs.Journal.{task_of, done_by, script_of, tasks_left}
use Rattle.plan_model.specs.Legal.{IsJournal}
use Rattle.plan_model.specs.Outcome.{IsPlanner, ShareIsCurrent}
use Rattle.plan_model.specs.Board.{Access}
use Rattle.turn_desk.specs.Journal.{GoesOn}
use Rattle.turn_desk.specs.Known.{Known}

-- what an actor is: the planner of a script, or a worker with this share of so many
pub data Role : Type 0 where
  Planner : ℕ → Role
  Worker : ℕ → ℕ → Role

-- the role of the actor whose pass has this number: planners come first
abbrev pub role_at : ℕ → ℕ → ℕ → Role
role_at planners workers number =
    if nat_le number planners then Planner number else Worker (number - planners - 1) workers

-- an act does a task of a planner
pub record DoesTaskOf (planner : ℕ) (a : Act) : Type 0 where
  pub task : Task
  pub is : task_of planner a ≡ Some task

-- an act publishes an answer
pub record Publishes (a : Act) : Type 0 where
  pub section : List ℕ
  pub at : ℕ
  pub answer : Answer
  pub is : a ≡ act.Published section at answer

-- an act is of an actor: a planner does tasks of its script, and a worker publishes
abbrev pub IsBy : Role → Act → Type 0
IsBy (Planner planner) a = DoesTaskOf planner a
IsBy (Worker share of) a = Publishes a

-- each entry that carries the number is of the actor
abbrev pub AreBy : Role → ℕ → List Entry → Type 0
AreBy role number journal = All (λ e. e.pass ≡ number → IsBy role e.act) journal

-- at some time no task was left, and each section of the share was current
pub record HasRested (share of : ℕ) (journal : List Entry) : Type 0 where
  pub found : List Entry
  pub more : List Entry
  pub is : journal ≡ found ++ more
  pub is_journal : IsJournal found
  pub none_left : tasks_left found ≡ 0
  pub current : ShareIsCurrent share of found

-- an actor is finished: a planner has done its script, or a worker has rested
abbrev pub IsFinished : Role → List Entry → Type 0
IsFinished (Planner planner) journal = length (script_of journal planner) ≤ length (done_by journal planner)
IsFinished (Worker share of) journal = HasRested share of journal

-- an actor may act: its script, or its share, is there
abbrev pub IsAble : Role → List Entry → Type 0
IsAble (Planner planner) journal = IsPlanner journal planner
IsAble (Worker share of) journal = share < of

-- an actor between two of its calls: it has one number, what carries it in the seen part is its own, and once it has
-- ended it is finished
pub record IsAtWork (role : Role) (ended : Bool) (access : Access) : Type 0 where
  pub own : access.numbers ≡ access.pass ∷ []
  pub journal : IsJournal access.seen
  pub by : AreBy role access.pass access.seen
  pub able : IsAble role access.seen
  pub finished : ended ≡ true → IsFinished role access.seen

-- the pass of a finished actor has left into one with these numbers and this seen part
pub record HasLeft (numbers : List ℕ) (seen : List Entry) (role : Role) (number : ℕ) : Type 0 where
  pub there : Contains numbers number
  pub by : AreBy role number seen
  pub finished : IsFinished role seen

-- all actors have left with numbers from 1 on, up to this one
abbrev pub HaveLeft : ℕ → ℕ → List ℕ → List Entry → ℕ → Type 0
HaveLeft planners workers numbers seen last =
    (number : ℕ) → 1 ≤ number → number ≤ last → HasLeft numbers seen (role_at planners workers number) number

-- into main's pass, which had seen this much and had the number 0 alone, have left the actors with numbers from 1 on up
-- to this one
pub record IsLeaving (planners workers : ℕ) (first : List Entry) (main : Known Entry) (gone : ℕ) : Type 0 where
  pub some : 0 < length first
  pub zero : Contains main.numbers 0
  pub goes_on : GoesOn (λ e. e.pass) (0 ∷ []) first main.seen
  pub left : HaveLeft planners workers main.numbers main.seen gone
