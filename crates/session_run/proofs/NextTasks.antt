-- A planner's next task, and its script to the end.
use Rattle.std.proofs.Common.{◌≡◌, ◌≢◌, ℕ, zero, suc, ◌+◌, ◌<◌, ◌≤◌, List, [], ◌∷◌, ◌++◌, length, get_or, drop, take, Some, None, refl, sym, ap, ◌∙◌, subst, arith}
use Rattle.std.specs.Prelude.{slice_get}
use Rattle.std.proofs.lemmas.Bool.{eq-eqb}
use Rattle.std.proofs.lemmas.Option.{get_or_from_slice_get}
use Rattle.std.proofs.lemmas.List.{take_more, take_all, length-take-le, map-append}
use Rattle.plan_model.specs.declared.scripts.Task.{Task}
use Rattle.plan_model.specs.declared.journal.Act.{Act}
use Rattle.plan_model.specs.declared.journal.Entry.{Entry}
use Rattle.plan_model.specs.declared.outcome.Stepped.{Stepped}
use Rattle.plan_model.specs.declared.outcome.Stepped.TheVariants as stepped
use Rattle.plan_model.specs.Journal.{script, opening, task_of, done_by, script_of}
use Rattle.plan_model.specs.Outcome.{AddsEntry, IsPlanner, next_task, StepsTo}
use Rattle.plan_book.proofs.NextTasks.{next_at}
use Rattle.session_run.specs.Turns.{HasCaughtUp, DoesNextTask, DoesTasks, by_planner}
use Rattle.session_run.proofs.Turns.{tasks_for, nothing_done, same_opening, all_done, one_task_more, tasks_opening}
use Rattle.session_run.proofs.InTurn.{own}

-- ---- one task

module _ (planner : ℕ) (found ready : List Entry) (some : 0 < length found) (is_planner : IsPlanner found planner) (up : HasCaughtUp found ready) where
  pub planner_ready : IsPlanner ready planner
  planner_ready = record { from_one = is_planner.from_one; to_last = rw (same_opening found ready some up) is_planner.to_last }

  same_next : next_task ready planner ≡ next_task found planner
  same_next k =
      slice_get (drop (length (nothing_done planner found ready up k)) (script (same_opening found ready some up k).scripts planner)) 0

  by_entry : (after : List Entry) (t : Task) (a : Act) → next_task ready planner ≡ Some t → AddsEntry 0 a ready after → task_of planner a ≡ Some t
      → DoesNextTask planner found after
  by_entry after t a next adds does = record {
    task = t;
    next = sym same_next ∙ next;
    does = record {
      ready = ready;
      caught_up = up;
      is_planner = is_planner;
      entry = record { pass = 0; act = a };
      is = adds.is;
      pass = refl;
      does = does;
    };
  }

  pub step_does : (after : List Entry) (s : Stepped) → next_task found planner ≢ None → StepsTo 0 planner ready s after → DoesNextTask planner found after
  step_does after (stepped.Edited at) left h = by_entry after _ _ h.next h.edits (rw (eq-eqb planner planner refl) refl)
  step_does after (stepped.Refused rule) left h = by_entry after _ _ h.next h.edits (rw (eq-eqb planner planner refl) refl)
  step_does after (stepped.Asked a) left h = by_entry after _ _ h.next h.asks.adds (rw (eq-eqb planner planner refl) refl)
  step_does after stepped.Ended left h = absurd (left (sym same_next ∙ h.0))

-- ---- a script

there : {X : Type 0} (xs : List X) (i : ℕ) → i < length xs → (x : X) × (slice_get xs i ≡ Some x)
there [] i l = absurd (omega (arith, l))
there (x ∷ xs) zero l = (x, refl)
there (x ∷ xs) (suc i) l = there xs i (omega (arith, l))

module _ (found now : List Entry) (planner i : ℕ) (some : 0 < length found) (is_planner : IsPlanner found planner) (none : done_by found planner ≡ []) (h : DoesTasks found (by_planner planner (take i (script_of found planner))) now) (l : i < length (script_of found planner)) where
  abbrev tasks : List Task
  tasks = script_of found planner

  opening_now : opening now ≡ opening found
  opening_now = (tasks_opening (by_planner planner (take i tasks)) found now some h).1

  pub planner_now : IsPlanner now planner
  planner_now = record { from_one = is_planner.from_one; to_last = rw opening_now is_planner.to_last }

  done_now : done_by now planner ≡ take i tasks
  done_now =
      all_done (by_planner planner (take i tasks)) planner found now h
      ∙ ap (λ ts. ts ++ tasks_for planner (by_planner planner (take i tasks))) none
      ∙ own planner (take i tasks)

  next_now : next_task now planner ≡ slice_get tasks i
  next_now =
      (λ k. slice_get (drop (length (done_now k)) (script (opening_now k).scripts planner)) 0)
      ∙ ap (λ n. slice_get (drop n tasks) 0) (length-take-le i tasks (omega (arith, l)))
      ∙ next_at tasks i

  pub left_now : next_task now planner ≢ None
  left_now = λ e. let t = there tasks i l in let both : Some t.0 ≡ None = sym t.1 ∙ sym next_now ∙ e in absurd (cc)

  pub task_more : (after : List Entry) → DoesNextTask planner now after
      → DoesTasks found (by_planner planner (take (i + 1) tasks)) after
  task_more after d =
      let is : get_or tasks i d.task ≡ d.task = get_or_from_slice_get tasks i d.task d.task (sym next_now ∙ d.next) in
      let more : by_planner planner (take (i + 1) tasks) ≡ by_planner planner (take i tasks) ++ (planner, d.task) ∷ [] =
      ap (by_planner planner) (take_more tasks i d.task l)
      ∙ map-append (λ t. (planner, t)) (take i tasks) (get_or tasks i d.task ∷ [])
      ∙ ap (λ t. by_planner planner (take i tasks) ++ (planner, t) ∷ []) is in
      rw more (one_task_more (by_planner planner (take i tasks)) planner d.task found now after h d.does)

pub script_done : (found now : List Entry) (planner i : ℕ) → length (script_of found planner) ≤ i
    → DoesTasks found (by_planner planner (take i (script_of found planner))) now
    → DoesTasks found (by_planner planner (script_of found planner)) now
script_done found now planner i all h =
    subst (λ ts. DoesTasks found (by_planner planner ts) now) (take_all i (script_of found planner) all) h
