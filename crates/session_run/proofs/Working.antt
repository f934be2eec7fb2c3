-- What an actor's call leaves: the actor is at work again.
use Rattle.std.proofs.Common.{◌≡◌, ℕ, ◌≤◌, true, List, [], ◌∷◌, ◌++◌, length, drop, None, Result, Ok, Err, refl, sym, ap, ◌∙◌, subst, arith, append_assoc}
use Rattle.std.specs.Prelude.{Bool, slice_get}
use Rattle.std.proofs.lemmas.Bool.{eq-eqb}
use Rattle.std.proofs.lemmas.List.{length-drop}
use Rattle.std.proofs.lemmas.List.Elements.{All-push}
use Rattle.rail_model.specs.declared.memory.OutOfMemory.{OutOfMemory}
use Rattle.plan_model.specs.declared.scripts.Task.TheVariants as task
use Rattle.plan_model.specs.declared.journal.Act.{Act}
use Rattle.plan_model.specs.declared.journal.Entry.{Entry}
use Rattle.plan_model.specs.declared.outcome.Stepped.{Stepped}
use Rattle.plan_model.specs.declared.outcome.Stepped.TheVariants as stepped
use Rattle.plan_model.specs.Journal.{done_by, script_of}
use Rattle.plan_model.specs.Legal.{IsJournal}
use Rattle.plan_model.specs.Outcome.{AddsEntry, next_task, StepsTo}
use Rattle.plan_model.specs.Board.{Access, IsCall, Gives}
use Rattle.plan_model.proofs.Legality.{legal_has_one}
use Rattle.plan_model.proofs.Adding.{gives_adds, step_adds}
use Rattle.session_run.specs.Actors.{Role, Planner, IsBy, AreBy, IsFinished, IsAtWork}
use Rattle.session_run.proofs.Finishing.{on_desk, able_stays, by_goes_on}

-- an actor that has seen more, and made entries of its own, is at work again
pub still_at_work : (role : Role) (old new : Access) (ended later : Bool) (more : List Entry) → IsAtWork role ended old
    → new.numbers ≡ old.numbers → new.pass ≡ old.pass → new.seen ≡ old.seen ++ more → IsJournal new.seen
    → AreBy role old.pass new.seen → (later ≡ true → IsFinished role new.seen) → IsAtWork role later new
still_at_work role old new ended later more h numbers pass is journal by finished = record {
  own = numbers ∙ h.own ∙ ap (λ n. n ∷ []) (sym pass);
  journal = journal;
  by = subst (λ n. AreBy role n new.seen) (sym pass) by;
  able = rw is (able_stays role old.seen more (legal_has_one old.seen h.journal.legal) h.able);
  finished = finished;
}

-- an entry of the actor is added
pub entry_by : (role : Role) (number pass : ℕ) (a : Act) (found after : List Entry) → IsBy role a → AddsEntry pass a found after
    → AreBy role number found → AreBy role number after
entry_by role number pass a found after by adds h =
    let e : Entry = record { pass = pass; act = a } in
    subst (AreBy role number) (sym adds.is) (All-push (λ e. e.pass ≡ number → IsBy role e.act) found e h (λ same. by))

-- ---- a planner's step

step_by : (planner number pass : ℕ) (s : Stepped) (found after : List Entry) → StepsTo pass planner found s after
    → AreBy (Planner planner) number found → AreBy (Planner planner) number after
step_by planner number pass (stepped.Edited at) found after h by =
    entry_by (Planner planner) number pass _ found after (record { task = task.Edit h.edit; is = rw (eq-eqb planner planner refl) refl }) h.edits by
step_by planner number pass (stepped.Refused rule) found after h by =
    entry_by (Planner planner) number pass _ found after (record { task = task.Edit h.edit; is = rw (eq-eqb planner planner refl) refl }) h.edits by
step_by planner number pass (stepped.Asked a) found after h by =
    entry_by (Planner planner) number pass _ found after (record { task = task.Ask h.section; is = rw (eq-eqb planner planner refl) refl }) h.asks.adds by
step_by planner number pass stepped.Ended found after h by = subst (AreBy (Planner planner) number) (sym h.1) by

steps_by : (planner number pass : ℕ) (r : Result Stepped OutOfMemory) (found after : List Entry) → Gives (StepsTo pass planner) r found after
    → AreBy (Planner planner) number found → AreBy (Planner planner) number after
steps_by planner number pass (Ok s) found after h by = step_by planner number pass s found after h by
steps_by planner number pass (Err e) found after h by = subst (AreBy (Planner planner) number) (sym h) by

none_there : {X : Type 0} (xs : List X) → slice_get xs 0 ≡ None → length xs ≤ 0
none_there [] h = omega arith
none_there (x ∷ xs) h = absurd (cc)

-- a planner that has no next task has done its script
script_is_done : (found : List Entry) (planner : ℕ) → next_task found planner ≡ None → IsFinished (Planner planner) found
script_is_done found planner none =
    omega (arith, none_there (drop (length (done_by found planner)) (script_of found planner)) none, length-drop (length (done_by found planner)) (script_of found planner))

abbrev pub HasEnded : Result Stepped OutOfMemory → Type 0
HasEnded r = r ≡ Ok stepped.Ended

ended_is_done : (planner pass : ℕ) (r : Result Stepped OutOfMemory) (found after : List Entry) → Gives (StepsTo pass planner) r found after
    → HasEnded r → IsFinished (Planner planner) after
ended_is_done planner pass r found after h ended =
    let last : StepsTo pass planner found stepped.Ended after = subst (λ x. Gives (StepsTo pass planner) x found after) ended h in
    subst (IsFinished (Planner planner)) (sym last.1) (script_is_done found planner last.0)

module _ (planner : ℕ) (old new : Access) (r : Result Stepped OutOfMemory) (ended later : Bool) (h : IsAtWork (Planner planner) ended old)
    (call : IsCall (Gives (StepsTo old.pass planner) r) old new) where
  pub planner_at_work : (later ≡ true → HasEnded r) → IsAtWork (Planner planner) later new
  planner_at_work has_ended =
      let adds = gives_adds old.pass call.found new.seen (StepsTo old.pass planner) r (step_adds old.pass call.found new.seen planner) call.does in
      let found_by = by_goes_on old.numbers old.seen call.found (on_desk old.numbers old.seen call.found call.goes_on) (Planner planner) old.pass call.before.own h.by in
      still_at_work (Planner planner) old new ended later (call.goes_on.more ++ adds.own) h call.same_numbers call.same_pass
      (adds.is ∙ ap (λ j. j ++ adds.own) call.goes_on.is ∙ append_assoc old.seen call.goes_on.more adds.own) call.after.seen
      (steps_by planner old.pass old.pass r call.found new.seen call.does found_by)
      (λ is. ended_is_done planner old.pass r call.found new.seen call.does (has_ended is))
