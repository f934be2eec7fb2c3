-- An actor's step or turn, and what it leaves of the actor.
use Rattle.std.proofs.Common.{◌≡◌, ℕ, true, false, List, [], ◌∷◌, ◌++◌, Result, Ok, Err, Bool, inl, inr, refl, sym, ap, ◌∙◌, subst, arith, append_assoc, append-nil}
use Rattle.std.specs.Prelude.{Contains}
use Rattle.std.proofs.lemmas.Bool.{eqb-true}
use Rattle.rail_model.specs.declared.memory.OutOfMemory.{OutOfMemory}
use Rattle.plan_model.specs.declared.journal.Act.{Act}
use Rattle.plan_model.specs.declared.journal.Act.TheVariants as act
use Rattle.plan_model.specs.declared.journal.Entry.{Entry}
use Rattle.plan_model.specs.declared.outcome.Stepped.{Stepped}
use Rattle.plan_model.specs.declared.outcome.Stepped.TheVariants as stepped
use Rattle.plan_model.specs.Legal.{IsJournal}
use Rattle.plan_model.specs.Board.{Access}
use Rattle.plan_model.specs.Call.{GoesOn}
use Rattle.plan_model.specs.Outcome.{AddsEntry}
use Rattle.section_worker.specs.declared.worker.Turned.{Turned}
use Rattle.section_worker.specs.declared.worker.Turned.TheVariants as turned
use Rattle.timetable_desk.specs.Seat.{Seated, access_of}
use Rattle.section_worker.specs.Keeping.{Working, IsSameWorker, KeepsWhatWasRead}
use Rattle.section_worker.specs.Turn.{IsSameBoard, Reads, EndsAs, Answers, Rests, TurnsTo}
use Rattle.session_run.specs.declared.actor.Duty.TheVariants as duty
use Rattle.session_run.specs.declared.actor.Actor.{Actor}
use Rattle.session_run.specs.Actors.{Role, Planner, Worker, IsBy, AreBy, HasRested, IsAtWork}
use Rattle.session_run.specs.Acting.{has_ended, rests, IsSameAccess, role_of, KeepsRead, IsWorking, WorksOn}
use Rattle.session_run.proofs.Finishing.{on_desk, by_goes_on}
use Rattle.session_run.proofs.Working.{still_at_work, entry_by}

-- a step that was a planner's last
pub last_step : (s : Stepped) → has_ended s ≡ true → s ≡ stepped.Ended
last_step (stepped.Edited at) h = absurd (cc)
last_step (stepped.Refused rule) h = absurd (cc)
last_step (stepped.Asked a) h = absurd (cc)
last_step stepped.Ended h = refl

-- ---- a worker's turn

-- what was seen before a turn is a beginning of what is seen after it, and what carries the pass's number in the rest is
-- the worker's
record Grows (role : Role) (old : Access) (seen : List Entry) : Type 0 where
  pub more : List Entry
  pub is : seen ≡ old.seen ++ more
  pub by : AreBy role old.pass seen

has_own : (role : Role) (ended : Bool) (a : Access) → IsAtWork role ended a → Contains a.numbers a.pass
has_own role ended a h = rw h.own (0, omega arith, refl)

module _ (role : Role) (old : Access) (ended : Bool) (h : IsAtWork role ended old) where
  grows : (seen : List Entry) → GoesOn old.numbers old.seen seen → Grows role old seen
  grows seen g = record {
    more = g.more;
    is = g.is;
    by = by_goes_on old.numbers old.seen seen (on_desk old.numbers old.seen seen g) role old.pass (has_own role ended old h) h.by;
  }

  grows_on : (found seen : List Entry) → Grows role old found → GoesOn old.numbers found seen → Grows role old seen
  grows_on found seen first g = record {
    more = first.more ++ g.more;
    is = g.is ∙ ap (λ j. j ++ g.more) first.is ∙ append_assoc old.seen first.more g.more;
    by = by_goes_on old.numbers found seen (on_desk old.numbers found seen g) role old.pass (has_own role ended old h) first.by;
  }

  grows_by : (found seen : List Entry) (a : Act) → Grows role old found → IsBy role a → AddsEntry old.pass a found seen → Grows role old seen
  grows_by found seen a first by adds = record {
    more = first.more ++ record { pass = old.pass; act = a } ∷ [];
    is =
        adds.is ∙ ap (λ j. j ++ record { pass = old.pass; act = a } ∷ []) first.is
        ∙ append_assoc old.seen first.more (record { pass = old.pass; act = a } ∷ []);
    by = entry_by role old.pass old.pass a found seen by adds first.by;
  }

module _ (w later : Working) (old new : Access) (ended : Bool) (h : IsAtWork (Worker w.share w.of) ended old) where
  abbrev role : Role
  role = Worker w.share w.of

  ends_grow : (reads : Reads w old) (t : Turned) → Grows role old reads.found → EndsAs reads new.seen t
      → Grows role old new.seen
  ends_grow reads (turned.Published section of) first e =
      grows_by role old ended h e.before new.seen (act.Published section of e.answer)
      (grows_on role old ended h reads.found e.before first e.goes_on)
      (record { section = section; at = of; answer = e.answer; is = refl }) e.adds
  ends_grow reads (turned.Stale section of by) first e =
      grows_on role old ended h reads.found new.seen first e.goes_on
  ends_grow reads (turned.Current section last) first e =
      grows_on role old ended h reads.found new.seen first e.goes_on
  ends_grow reads (turned.Idle left) first e = absurd e

  answers_grow : (t : Turned) → Answers w later old new t → Grows role old new.seen
  answers_grow t a =
      ends_grow a.reads t (grows role old ended h a.reads.found a.reads.goes_on) a.ends

  turn_grows : (r : Result Turned OutOfMemory) → TurnsTo w later old new r → Grows role old new.seen
  turn_grows (Ok (turned.Published section at)) t = answers_grow (turned.Published section at) t
  turn_grows (Ok (turned.Stale section at by)) t = answers_grow (turned.Stale section at by) t
  turn_grows (Ok (turned.Current section at)) t = answers_grow (turned.Current section at) t
  turn_grows (Ok (turned.Idle left)) t = grows role old ended h new.seen t.nothing.goes_on
  turn_grows (Err e) (inl t) = grows role old ended h new.seen t.goes_on
  turn_grows (Err e) (inr t) = grows role old ended h new.seen t.goes_on

  -- a turn that was the worker's last
  rested : (r : Result Turned OutOfMemory) (t : Turned) → r ≡ Ok t → rests t ≡ true → TurnsTo w later old new r → IsJournal new.seen
      → HasRested w.share w.of new.seen
  rested r (turned.Published section at) is last turn journal = absurd (cc)
  rested r (turned.Stale section at by) is last turn journal = absurd (cc)
  rested r (turned.Current section at) is last turn journal = absurd (cc)
  rested r (turned.Idle left) is last turn journal =
      let rest : Rests w later old new left = subst (TurnsTo w later old new) is turn in
      record {
        found = new.seen;
        more = [];
        is = sym (append-nil new.seen);
        is_journal = journal;
        none_left = sym rest.left_is ∙ eqb-true left 0 last;
        current = rest.current;
      }

  pub worker_at_work : (r : Result Turned OutOfMemory) (later_ended : Bool) → TurnsTo w later old new r → IsSameBoard old new
      → (later_ended ≡ true → (t : Turned) × (r ≡ Ok t) × (rests t ≡ true)) → IsAtWork role later_ended new
  worker_at_work r later_ended turn board last =
      let g = turn_grows r turn in
      still_at_work role old new ended later_ended g.more h board.numbers board.pass g.is board.access.seen g.by
      (λ is. let l = last is in rested r l.0 l.1 l.2 turn board.access.seen)

-- ---- the actor

pub same_work : (a : Actor) → IsWorking a → WorksOn a a
same_work a h = record { working = h; same = record { journal = refl; pass = refl; numbers = refl }; role = refl }

pub works_again : (one two three : Actor) → WorksOn one two → WorksOn two three → WorksOn one three
works_again one two three h more = record {
  working = more.working;
  same = record {
    journal = more.same.journal ∙ h.same.journal;
    pass = more.same.pass ∙ h.same.pass;
    numbers = more.same.numbers ∙ h.same.numbers;
  };
  role = more.role ∙ h.role;
}

pub planner_works : (old : Actor) (planner : ℕ) (seat : Seated) (ended : Bool) → old.duty ≡ duty.Planner planner
    → IsSameAccess (access_of old.seat) (access_of seat) → IsAtWork (Planner planner) ended (access_of seat)
    → WorksOn old (record { seat = seat; duty = duty.Planner planner; ended = ended })
planner_works old planner seat ended is same at_work = record {
  working = record { at_work = at_work; keeps = tt };
  same = same;
  role = ap role_of (sym is);
}

pub worker_works : (old : Actor) (w later : Working) (seat : Seated) (ended : Bool) → old.duty ≡ duty.Worker w
    → IsSameAccess (access_of old.seat) (access_of seat) → IsSameWorker w later → KeepsWhatWasRead later seat.pass.seen
    → IsAtWork (Worker w.share w.of) ended (access_of seat)
    → WorksOn old (record { seat = seat; duty = duty.Worker later; ended = ended })
worker_works old w later seat ended is same worker keeps at_work =
    let role : Worker later.share later.of ≡ Worker w.share w.of = (λ k. Worker (worker.share k) (worker.of k)) in
    record {
      working = record { at_work = subst (λ r. IsAtWork r ended (access_of seat)) (sym role) at_work; keeps = keeps };
      same = same;
      role = role ∙ ap role_of (sym is);
    }

-- what is known of a planner, and of a worker, that has not ended
pub planner_is : (a : Actor) (planner : ℕ) → IsWorking a → a.ended ≡ false → a.duty ≡ duty.Planner planner
    → IsAtWork (Planner planner) false (access_of a.seat)
planner_is a planner h ended is =
    subst (λ p. IsAtWork (role_of p) false (access_of a.seat)) is
    (subst (λ e. IsAtWork (role_of a.duty) e (access_of a.seat)) ended h.at_work)

pub worker_is : (a : Actor) (w : Working) → IsWorking a → a.ended ≡ false → a.duty ≡ duty.Worker w
    → IsAtWork (Worker w.share w.of) false (access_of a.seat)
worker_is a w h ended is =
    subst (λ p. IsAtWork (role_of p) false (access_of a.seat)) is
    (subst (λ e. IsAtWork (role_of a.duty) e (access_of a.seat)) ended h.at_work)

pub worker_keeps : (a : Actor) (w : Working) → IsWorking a → a.duty ≡ duty.Worker w → KeepsWhatWasRead w a.seat.pass.seen
worker_keeps a w h is = subst (λ p. KeepsRead p a.seat.pass.seen) is h.keeps
