-- Actors at their seats.
use Rattle.std.specs.Prelude.{◌≡◌, ℕ, ◌+◌, ◌-◌, ◌==◌, ◌<◌, ◌≤◌, Bool, true, false, List, length, slice_index_or, All}
use Rattle.plan_model.specs.declared.journal.Entry.{Entry}
use Rattle.plan_model.specs.declared.outcome.Stepped.{Stepped}
use Rattle.plan_model.specs.declared.outcome.Stepped.TheVariants as stepped
use Rattle.plan_model.specs.Journal.{opening}
use Rattle.plan_model.specs.Legal.{IsJournal}
use Rattle.plan_model.specs.Board.{Access}
use Rattle.turn_desk.specs.Known.{Known, TableId, new_pass, new_passes}
use Rattle.timetable_desk.specs.Seat.{access_of}
use Rattle.section_worker.specs.declared.worker.Turned.{Turned}
use Rattle.section_worker.specs.declared.worker.Turned.TheVariants as turned
use Rattle.section_worker.specs.Keeping.{KeepsWhatWasRead}
use Rattle.session_run.specs.declared.actor.Duty.{Duty}
use Rattle.session_run.specs.declared.actor.Duty.TheVariants as duty
use Rattle.session_run.specs.declared.actor.Actor.{Actor}
use Rattle.session_run.specs.Actors.{Role, Planner, Worker, role_at, IsAtWork}

-- a planner's step is its last where no task is left
abbrev pub has_ended : Stepped → Bool
has_ended (stepped.Edited at) = false
has_ended (stepped.Refused rule) = false
has_ended (stepped.Asked a) = false
has_ended stepped.Ended = true

-- a worker rests after a turn that found its share current and no task left
abbrev pub rests : Turned → Bool
rests (turned.Published section at) = false
rests (turned.Stale section at by) = false
rests (turned.Current section at) = false
rests (turned.Idle left) = left == 0

-- two accesses are of one pass to one journal, whatever they have seen of it
pub record IsSameAccess (old new : Access) : Type 0 where
  pub journal : new.journal ≡ old.journal
  pub pass : new.pass ≡ old.pass
  pub numbers : new.numbers ≡ old.numbers

-- what an actor is
abbrev pub role_of : Duty → Role
role_of (duty.Planner planner) = Planner planner
role_of (duty.Worker worker) = Worker worker.share worker.of

-- what a worker keeps was read; a planner keeps nothing
abbrev pub KeepsRead : Duty → List Entry → Type 0
KeepsRead (duty.Planner planner) seen = Unit {0}
KeepsRead (duty.Worker worker) seen = KeepsWhatWasRead worker seen

-- an actor between two steps or turns
pub record IsWorking (a : Actor) : Type 0 where
  pub at_work : IsAtWork (role_of a.duty) a.ended (access_of a.seat)
  pub keeps : KeepsRead a.duty a.seat.pass.seen

-- the actor after some work
pub record WorksOn (old new : Actor) : Type 0 where
  pub working : IsWorking new
  pub same : IsSameAccess (access_of old.seat) (access_of new.seat)
  pub role : role_of new.duty ≡ role_of old.duty

-- all actors after some work
pub record AllWorkOn (old new : List Actor) : Type 0 where
  pub count : length new ≡ length old
  pub each : (i : ℕ) (d : Actor) → i < length old → WorksOn (slice_index_or old i d) (slice_index_or new i d)

-- ---- the start

-- a journal opens with so many scripts, and pass 0 made all its entries
pub record HasOpened (planners : ℕ) (journal : List Entry) : Type 0 where
  pub is_journal : IsJournal journal
  pub count : length (opening journal).scripts ≡ planners
  pub by_main : All (λ e. e.pass ≡ 0) journal

-- new passes for all actors, from number 1 on
pub record AreNewPasses (desk : TableId) (planners workers : ℕ) (passes : List (Known Entry)) : Type 0 where
  pub seen : List Entry
  pub opened : HasOpened planners seen
  pub are : passes ≡ new_passes desk seen 1 (planners + workers)

-- the new pass of a number
pub record IsNewPass (desk : TableId) (planners number : ℕ) (pass : Known Entry) : Type 0 where
  pub seen : List Entry
  pub opened : HasOpened planners seen
  pub from_one : 1 ≤ number
  pub is : pass ≡ new_pass desk number seen

-- a duty that has the role of a number, and keeps nothing
pub record IsNewDuty (planners workers number : ℕ) (d : Duty) : Type 0 where
  pub role : role_of d ≡ role_at planners workers number
  pub keeps : (seen : List Entry) → KeepsRead d seen

-- the actor of a number, at this desk
pub record IsActorOf (desk : TableId) (planners workers number : ℕ) (a : Actor) : Type 0 where
  pub desk_is : a.seat.pass.desk ≡ desk
  pub number_is : a.seat.pass.number ≡ number
  pub role : role_of a.duty ≡ role_at planners workers number
  pub working : IsWorking a

-- actors of all numbers from 1 on, of which those with lower numbers stand last, and some of the last are gone
abbrev pub StandInPlaces : TableId → ℕ → ℕ → List Actor → Type 0
StandInPlaces desk planners workers actors =
    (i : ℕ) (d : Actor) → i < length actors
    → IsActorOf desk planners workers (planners + workers - i) (slice_index_or actors i d)

-- none is gone
pub record AreActors (desk : TableId) (planners workers : ℕ) (actors : List Actor) : Type 0 where
  pub count : length actors ≡ planners + workers
  pub places : StandInPlaces desk planners workers actors
