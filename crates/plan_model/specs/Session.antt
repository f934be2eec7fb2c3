-- The journal of a session: all scripts are done, and in the end every section is current.
use Rattle.std.specs.Prelude.{◌≡◌, ℕ, zero, suc, ◌+◌, ◌<◌, ◌≤◌, List, [], ◌∷◌, ◌++◌, length, map, flat_map, zip, All, Some}
use Rattle.std.specs.List.{range_with_len, enumerate_from}
use Rattle.rail_model.specs.declared.tables.Tables.{Tables}
use Rattle.rail_model.specs.Name.{NamesRise}
use Rattle.plan_model.specs.Types.{Answer, Task, Act, Entry}
use Rattle.plan_model.specs.declared.journal.Act.TheVariants as act
use Rattle.plan_model.specs.Journal.{last_number, tables_of, task_of, done_by}
use Rattle.plan_model.specs.Legal.{IsCurrent, IsLegal}

-- ---- who makes which entry

-- how many passes are issued beside pass 0: with workers, one for each planner and each worker
abbrev pub actors : ℕ → ℕ → ℕ
actors planners zero = 0
actors planners (suc workers) = planners + suc workers

-- pass 0 opens the journal, and issues the passes from 1 on
abbrev pub opened : Tables → ℕ → List (List Task) → Entry
opened tables at scripts = record { pass = 0; act = act.Opened tables at scripts }

-- the entries that issue them
abbrev pub entered : ℕ → List Entry
entered count = map (λ number. record { pass = 0; act = act.Entered number }) (range_with_len 1 count)

-- the pass of a planner: its own number, or 0 where there are no workers
abbrev pub IsPassOfPlanner : ℕ → ℕ → ℕ → Type 0
IsPassOfPlanner zero planner pass = pass ≡ 0
IsPassOfPlanner (suc workers) planner pass = pass ≡ planner

-- an entry is made for one of the planners, by its pass
pub record IsByPlanner (planners workers planner pass : ℕ) : Type 0 where
  pub from_one : 1 ≤ planner
  pub to_last : planner ≤ planners
  pub its_pass : IsPassOfPlanner workers planner pass

-- an entry is made by the pass of a worker, which comes after those of the planners; or by pass 0 where there are no
-- workers
abbrev pub IsByWorker : ℕ → ℕ → ℕ → Type 0
IsByWorker planners zero pass = pass ≡ 0
IsByWorker planners (suc workers) pass = (planners < pass) × (pass ≤ planners + suc workers)

-- once all have entered, planners edit and ask, and workers publish
abbrev pub IsMade : ℕ → ℕ → ℕ → Act → Type 0
IsMade planners workers pass (act.Edited planner at edit) = IsByPlanner planners workers planner pass
IsMade planners workers pass (act.Refused planner rule edit) = IsByPlanner planners workers planner pass
IsMade planners workers pass (act.Asked planner section reply) = IsByPlanner planners workers planner pass
IsMade planners workers pass (act.Published section at answer) = IsByWorker planners workers pass
IsMade planners workers pass a = ⊥

-- every section that is there is current
abbrev pub AllAreCurrent : List Entry → Type 0
AllAreCurrent journal = All (λ s. IsCurrent journal s.name) (tables_of journal).sections

-- the journal of a session over tables, the number of the last edit before it, scripts and workers: it opens with
-- them, all passes are issued, and in the rest each script is done, in order and each task once; in the end every
-- section is current
pub record IsSession (tables : Tables) (at : ℕ) (scripts : List (List Task)) (workers : ℕ) (journal : List Entry) : Type 0 where
  pub rest : List Entry
  pub is : journal ≡ opened tables at scripts ∷ entered (actors (length scripts) workers) ++ rest
  pub legal : IsLegal journal
  pub made : All (λ e. IsMade (length scripts) workers e.pass e.act) rest
  pub done : map (done_by journal) (range_with_len 1 (length scripts)) ≡ scripts
  pub current : AllAreCurrent journal

-- ---- the one order of a session without workers

-- an entry publishes a section of this name at the edit of this number
pub record IsPublicationAt (at : ℕ) (section : List ℕ) (e : Entry) : Type 0 where
  pub answer : Answer
  pub is : e.act ≡ act.Published section at answer

-- these entries make every section current: they publish sections at the number of the last edit, in the order of
-- names; by the rules of a legal journal, just those that are not current
pub record BringsUpToDate (journal publications : List Entry) : Type 0 where
  pub names : List (List ℕ)
  pub count : length publications ≡ length names
  pub each : All (λ p. IsPublicationAt (last_number journal) p.0 p.1) (zip names publications)
  pub rise : NamesRise (λ name. name) names
  pub current : AllAreCurrent (journal ++ publications)

-- the tasks of all planners, planner 1 first
abbrev pub tasks_in_turn : List (List Task) → List (ℕ × Task)
tasks_in_turn scripts = flat_map (λ s. map (λ t. (s.0, t)) s.1) (enumerate_from 1 scripts)

-- after a journal come these tasks, one after the other: before each of them, and after the last, every section is
-- made current
abbrev pub GoesInTurn : List Entry → List (ℕ × Task) → List Entry → Type 0
GoesInTurn journal [] rest = BringsUpToDate journal rest
GoesInTurn journal ((planner, task) ∷ tasks) rest =
    (publications : List Entry) × (e : Entry) × (later : List Entry)
    × (rest ≡ publications ++ e ∷ later)
    × BringsUpToDate journal publications
    × (task_of planner e.act ≡ Some task)
    × GoesInTurn (journal ++ publications ++ e ∷ []) tasks later

-- the journal of a session without workers
pub record IsSessionAlone (tables : Tables) (at : ℕ) (scripts : List (List Task)) (journal : List Entry) : Type 0 where
  pub session : IsSession tables at scripts 0 journal
  pub in_turn : GoesInTurn (opened tables at scripts ∷ []) (tasks_in_turn scripts) session.rest
