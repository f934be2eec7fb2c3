-- Actors take their seats, and stand in their places until they leave.
use Rattle.std.proofs.Common.{◌≡◌, ℕ, ◌+◌, ◌-◌, ◌<◌, ◌≤◌, true, false, List, [], ◌∷◌, ◌++◌, length, refl, sym, ap, ◌∙◌, subst, inl, inr, arith}
use Rattle.std.proofs.lemmas.Bool.{cases_lt}
use Rattle.std.proofs.lemmas.List.{get_or_append_left, get_or_push, same_from_push, length_push}
use Rattle.plan_model.specs.declared.journal.Entry.{Entry}
use Rattle.plan_model.proofs.Legality.{legal_has_one}
use Rattle.turn_desk.specs.Known.{Known, TableId, AgreeOn, IsReady, with_other, new_pass, new_passes}
use Rattle.turn_desk.proofs.Drawing.{new_passes-order}
use Rattle.timetable_desk.specs.Seat.{new_seat, access_of}
use Rattle.section_worker.specs.Keeping.{new_worker}
use Rattle.session_run.specs.declared.actor.Duty.{Duty}
use Rattle.session_run.specs.declared.actor.Duty.TheVariants as duty
use Rattle.session_run.specs.declared.actor.Actor.{Actor}
use Rattle.session_run.specs.Actors.{Worker, role_at, IsAble, HasLeft, IsLeaving}
use Rattle.session_run.specs.Acting.{role_of, HasOpened, IsNewPass, IsNewDuty, IsActorOf, StandInPlaces}
use Rattle.session_run.proofs.Entered.{pass_of}
use Rattle.session_run.proofs.Closing.{planner_role, worker_role}
use Rattle.session_run.proofs.Starting.{fresh_at_work}
use Rattle.session_run.proofs.Leaving.{leaves}

-- ---- duties

pub new_planner : (planners workers number : ℕ) → number ≤ planners → IsNewDuty planners workers number (duty.Planner number)
new_planner planners workers number l = record { role = sym (planner_role planners workers number l); keeps = λ seen. tt }

pub another_worker : (planners workers number share actor : ℕ) → planners < number → share ≡ number - planners - 1
    → IsNewDuty planners workers number (duty.Worker (new_worker share workers actor))
another_worker planners workers number share actor l is = record {
  role = ap (λ s. Worker s workers) is ∙ sym (worker_role planners workers number l);
  keeps = λ seen section h none. absurd (cc);
}

able_at : (planners workers number : ℕ) (seen : List Entry) → HasOpened planners seen → 1 ≤ number → number ≤ planners + workers
    → IsAble (role_at planners workers number) seen
able_at planners workers number seen opened from to =
    elim (cases_lt planners number) [
      | inl l ↦
          let share : number - planners - 1 < workers = omega (arith, l, to) in
          subst (λ r. IsAble r seen) (sym (worker_role planners workers number l)) share
      | inr l ↦
          subst (λ r. IsAble r seen) (sym (planner_role planners workers number l))
          (record { from_one = from; to_last = omega (arith, l, opened.count) })
    ]

pub new_actor : (desk : TableId) (planners workers number : ℕ) (pass : Known Entry) (d : Duty) → IsNewPass desk planners number pass
    → number ≤ planners + workers → IsNewDuty planners workers number d
    → IsActorOf desk planners workers number (record { seat = new_seat pass; duty = d; ended = false })
new_actor desk planners workers number pass d h to new =
    let made : IsActorOf desk planners workers number (record { seat = new_seat (new_pass desk number h.seen); duty = d; ended = false }) =
    record {
      desk_is = refl;
      number_is = refl;
      role = new.role;
      working = record {
        at_work =
            fresh_at_work (role_of d) number (access_of (new_seat (new_pass desk number h.seen))) h.from_one refl refl h.opened.is_journal h.opened.by_main
            (subst (λ r. IsAble r h.seen) (sym new.role) (able_at planners workers number h.seen h.opened h.from_one to));
        keeps = new.keeps h.seen;
      };
    } in
    subst (λ k. IsActorOf desk planners workers number (record { seat = new_seat k; duty = d; ended = false })) (sym h.is) made

-- ---- places

module _ (desk : TableId) (planners workers : ℕ) where
  pub one_place_more : (actors : List Actor) (a : Actor) → StandInPlaces desk planners workers actors
      → IsActorOf desk planners workers (planners + workers - length actors) a → StandInPlaces desk planners workers (actors ++ a ∷ [])
  one_place_more actors a h new i d l =
      elim (cases_lt i (length actors)) [
        | inl before ↦
            subst (IsActorOf desk planners workers (planners + workers - i)) (sym (get_or_append_left actors (a ∷ []) d i before)) (h i d before)
        | inr at ↦
            let same : length actors ≡ i = omega (arith, l, at, length_push actors a) in
            subst (IsActorOf desk planners workers (planners + workers - i)) (sym (get_or_push actors a d i same))
            (subst (λ n. IsActorOf desk planners workers (planners + workers - n) a) same new)
      ]

  pub one_place_fewer : (actors : List Actor) (a : Actor) → StandInPlaces desk planners workers (actors ++ a ∷ [])
      → StandInPlaces desk planners workers actors × IsActorOf desk planners workers (planners + workers - length actors) a
  one_place_fewer actors a h = (
    λ i d l.
        subst (IsActorOf desk planners workers (planners + workers - i)) (get_or_append_left actors (a ∷ []) d i l)
        (h i d (omega (arith, l, length_push actors a))),
    subst (IsActorOf desk planners workers (planners + workers - length actors)) (get_or_push actors a a (length actors) refl)
        (h (length actors) a (omega (arith, length_push actors a))),
  )

  -- so many actors have taken their seats, and the passes of the others are left
  pub record IsSeating (placed : ℕ) (passes : List (Known Entry)) (actors : List Actor) : Type 0 where
    pub seen : List Entry
    pub opened : HasOpened planners seen
    pub are : passes ≡ new_passes desk seen 1 (planners + workers - placed)
    pub count : length actors ≡ placed
    pub places : StandInPlaces desk planners workers actors

  pub pass_left : (placed : ℕ) (passes : List (Known Entry)) (actors : List Actor) → IsSeating placed passes actors → placed < planners + workers
      → 0 < length passes
  pass_left placed passes actors h l =
      omega (arith, ap length h.are, (new_passes-order desk h.seen 1 (planners + workers - placed)).many, l)

  module _ (placed : ℕ) (passes fewer : List (Known Entry)) (pass : Known Entry) (actors : List Actor) (h : IsSeating placed passes actors) (l : placed < planners + workers) (popped : passes ≡ fewer ++ pass ∷ []) where
    abbrev rest : ℕ
    rest = planners + workers - (placed + 1)

    both : (fewer ≡ new_passes desk h.seen 1 rest) × (pass ≡ new_pass desk (1 + rest) h.seen)
    both =
        let more : planners + workers - placed ≡ rest + 1 = omega (arith, l) in
        same_from_push fewer (new_passes desk h.seen 1 rest) pass (new_pass desk (1 + rest) h.seen)
        (sym popped ∙ h.are ∙ ap (λ n. new_passes desk h.seen 1 n) more ∙ (new_passes-order desk h.seen 1 rest).more)

    pub is_new_pass : IsNewPass desk planners (planners + workers - placed) pass
    is_new_pass = record {
      seen = h.seen;
      opened = h.opened;
      from_one = omega (arith, l);
      is = both.1 ∙ ap (λ n. new_pass desk n h.seen) (omega (arith, l));
    }

    pub seated_one : (a : Actor) → IsActorOf desk planners workers (planners + workers - placed) a
        → IsSeating (placed + 1) fewer (actors ++ a ∷ [])
    seated_one a new = record {
      seen = h.seen;
      opened = h.opened;
      are = both.0;
      count = omega (arith, length_push actors a, h.count);
      places =
          one_place_more actors a h.places
          (subst (λ n. IsActorOf desk planners workers (planners + workers - n) a) (sym h.count) new);
    }

  -- ---- leaving

  -- so many actors have left, those with the lowest numbers, and the others stand in their places
  pub record IsEmptying (first : List Entry) (main : Known Entry) (actors : List Actor) (gone : ℕ) : Type 0 where
    pub ready : IsReady desk main
    pub left : IsLeaving planners workers first main gone
    pub count : length actors + gone ≡ planners + workers
    pub places : StandInPlaces desk planners workers actors

  module _ (first : List Entry) (main : Known Entry) (actors fewer : List Actor) (a : Actor) (gone : ℕ)
      (h : IsEmptying first main actors gone) (popped : actors ≡ fewer ++ a ∷ []) where
    split : StandInPlaces desk planners workers fewer × IsActorOf desk planners workers (planners + workers - length fewer) a
    split = one_place_fewer fewer a (subst (StandInPlaces desk planners workers) popped h.places)

    place : planners + workers - length fewer ≡ gone + 1
    place = omega (arith, h.count, ap length popped, length_push fewer a)

    pub its_desk : a.seat.pass.desk ≡ desk
    its_desk = split.1.desk_is

    pub leaves_one : (other : Known Entry) (word : ℕ) (joined : Known Entry) → other ≡ a.seat.pass → a.ended ≡ true → AgreeOn pass_of main other
        → joined ≡ with_other main other word → IsEmptying first joined fewer (gone + 1)
    leaves_one other word joined is ended agree joins =
        let b = split.1 in
        let number = gone + 1 in
        let work = b.working.at_work in
        let its_number : a.seat.pass.number ≡ number = b.number_is ∙ place in
        let role_is : role_of a.duty ≡ role_at planners workers number = b.role ∙ ap (role_at planners workers) place in
        let new : HasLeft a.seat.pass.numbers a.seat.pass.seen (role_at planners workers number) number =
        subst (λ r. HasLeft a.seat.pass.numbers a.seat.pass.seen r number) role_is
        (subst (HasLeft a.seat.pass.numbers a.seat.pass.seen (role_of a.duty)) its_number
        (record { there = rw work.own (0, omega arith, refl); by = work.by; finished = work.finished ended })) in
        let left = subst (λ k. IsLeaving planners workers first (with_other main k word) number) (sym is)
        (leaves planners workers first main a.seat.pass gone word h.left (subst (AgreeOn pass_of main) is agree) number refl new (legal_has_one a.seat.pass.seen work.journal.legal)) in
        record {
          ready = rw joins (record { desk_is = h.ready.desk_is; idle = h.ready.idle });
          left = rw joins left;
          count = omega (arith, h.count, ap length popped, length_push fewer a);
          places = split.0;
        }
