-- Planners at work: each call leaves a journal in which each planner keeps to its script.
use Rattle.std.proofs.Common.{◌≡◌, ℕ, suc, ◌+◌, ◌<◌, ◌≤◌, eqb, if◌then◌else◌, List, [], ◌∷◌, ◌++◌, length, drop, get_or, Option, Some, None, Result, Ok, Err, inl, inr, refl, sym, ap, ◌∙◌, subst, arith, append_assoc}
use Rattle.std.specs.Prelude.{slice_get}
use Rattle.std.specs.List.{cons_option, range_with_len}
use Rattle.std.proofs.Math.Seq.{drop-append_seam}
use Rattle.std.proofs.lemmas.Bool.{cases_Bool, eqb-true}
use Rattle.std.proofs.lemmas.List.{append-nil}
use Rattle.std.proofs.lemmas.List.FromFn.{get_or-range_with_len, length-range_with_len}
use Rattle.rail_model.specs.declared.edit.Edit.{Edit}
use Rattle.rail_model.specs.declared.edit.Rule.{Rule}
use Rattle.plan_model.specs.declared.answer.Done.{Done}
use Rattle.plan_model.specs.declared.scripts.Task.{Task}
use Rattle.plan_model.specs.declared.scripts.Task.TheVariants as task
use Rattle.plan_model.specs.declared.journal.Act.{Act}
use Rattle.plan_model.specs.declared.journal.Entry.{Entry}
use Rattle.plan_model.specs.declared.outcome.Stepped.{Stepped}
use Rattle.plan_model.specs.declared.outcome.Stepped.TheVariants as stepped
use Rattle.plan_model.specs.declared.outcome.NotTaken.{NotTaken}
use Rattle.plan_model.specs.declared.outcome.NotTaken.TheVariants as not_taken
use Rattle.plan_model.specs.Journal.{script, opening, planners, task_of, done_by, script_of, left_of}
use Rattle.plan_model.specs.Legal.{IsNext, KeepsToScript, IsJournal}
use Rattle.plan_model.specs.Outcome.{AddsEntry, EditsTo, next_task, StepsTo, PublishesTo}
use Rattle.plan_model.specs.JournalLaws.{CallsLeaveJournals}
use Rattle.plan_model.proofs.Growing.{opening-more, done_by-more}
use Rattle.plan_model.proofs.Legality.{legal_has_one, next_is_legal}
use Rattle.plan_model.proofs.Touching.{same_one}

-- planner 1 has the first script
pub script_is : (scripts : List (List Task)) (k : ℕ) → script scripts (k + 1) ≡ get_or scripts k []
script_is scripts k = let next : k + 1 ≡ suc k = omega arith in ap (λ n. get_or ([] ∷ scripts) n []) next

-- what of an act is a planner's task is its next task
abbrev DoesNext : List Entry → Act → Type 0
DoesNext journal a =
    (planner : ℕ) → 1 ≤ planner → (t : Task) → task_of planner a ≡ Some t → next_task journal planner ≡ Some t

-- the first task that is left is done, and the others are left
goes_on : (all done left : List Task) (t : Task) → all ≡ done ++ left → slice_get left 0 ≡ Some t
    → (rest : List Task) × (all ≡ done ++ t ∷ [] ++ rest)
goes_on all done [] t is first = absurd (cc)
goes_on all done (x ∷ rest) t is first =
    let same : x ≡ t = same_one x t first in
    (rest, is ∙ ap (λ y. done ++ (y ∷ rest)) same ∙ sym (append_assoc done (t ∷ []) rest))

keeps_by : (journal : List Entry) (planner : ℕ) (o : Option Task) → ((t : Task) → o ≡ Some t → next_task journal planner ≡ Some t)
    → KeepsToScript journal planner
    → (left : List Task) × (script_of journal planner ≡ done_by journal planner ++ cons_option o [] ++ left)
keeps_by journal planner None next (left, is) =
    (left, is ∙ ap (λ ts. ts ++ left) (sym (append-nil (done_by journal planner))))
keeps_by journal planner (Some t) next (left, is) =
    let same : left_of journal planner ≡ left =
    ap (λ ts. drop (length (done_by journal planner)) ts) is ∙ drop-append_seam (done_by journal planner) left in
    goes_on (script_of journal planner) (done_by journal planner) left t is
    (ap (λ ts. slice_get ts 0) (sym same) ∙ next t refl)

keeps_next : (journal : List Entry) (e : Entry) (planner : ℕ) → 0 < length journal → 1 ≤ planner → DoesNext journal e.act
    → KeepsToScript journal planner → KeepsToScript (journal ++ e ∷ []) planner
unfolding done_by
keeps_next journal e planner some from next keeps =
    let more = keeps_by journal planner (task_of planner e.act) (next planner from) keeps in (
      more.0,
      ap (λ o. script o.scripts planner) (opening-more journal (e ∷ []) some) ∙ more.1
          ∙ ap (λ ts. ts ++ more.0) (sym (done_by-more journal (e ∷ []) planner)),
    )

journal_next : (journal : List Entry) (e : Entry) → IsJournal journal → IsNext journal e → DoesNext journal e.act
    → IsJournal (journal ++ e ∷ [])
journal_next journal e h next does =
    let some = legal_has_one journal h.legal in
    let same = ap (λ o. range_with_len 1 (length o.scripts)) (opening-more journal (e ∷ []) some) in
    record {
      legal = next_is_legal journal e h.legal next;
      scripts = rw same (λ k d l.
          let count = length (opening journal).scripts in
          let within : k < count = omega (arith, length-range_with_len 1 count, l) in
          let place = get_or-range_with_len 1 count k d within in
          keeps_next journal e (get_or (planners journal) k d) some (omega (arith, place)) does (h.scripts k d l));
    }

-- ---- which tasks an act does

-- a task by one planner is none of another
pub of_planner : (by planner : ℕ) (t u : Task) → (if eqb by planner then Some t else None) ≡ Some u → (by ≡ planner) × (t ≡ u)
of_planner by planner t u h =
    elim (cases_Bool (eqb by planner)) [
      | inl same ↦ (eqb-true by planner same, same_one t u (sym (rw same refl) ∙ h))
      | inr other ↦ let none : None ≡ Some u = sym (rw other refl) ∙ h in absurd (cc)
    ]

-- a call outside the scripts does no task
outside : (journal : List Entry) (t : Task) (planner : ℕ) → 1 ≤ planner → (u : Task)
    → (if eqb 0 planner then Some t else None) ≡ Some u → next_task journal planner ≡ Some u
outside journal t planner from u h = absurd (omega (arith, (of_planner 0 planner t u h).0, from))

-- a step does the next task of its planner
next_of : (journal : List Entry) (by : ℕ) (t : Task) → next_task journal by ≡ Some t → (planner : ℕ) → 1 ≤ planner → (u : Task)
    → (if eqb by planner then Some t else None) ≡ Some u → next_task journal planner ≡ Some u
next_of journal by t next planner from u h =
    let same = of_planner by planner t u h in
    ap (next_task journal) (sym same.0) ∙ next ∙ ap (λ x. Some x) same.1

nothing_done : (journal : List Entry) (planner : ℕ) (u : Task) → None ≡ Some u → next_task journal planner ≡ Some u
nothing_done journal planner u h = absurd (cc)

-- ---- the calls

after_entry : (pass : ℕ) (a : Act) (found after : List Entry) → IsJournal found → AddsEntry pass a found after → DoesNext found a
    → IsJournal after
after_entry pass a found after h adds does =
    subst IsJournal (sym adds.is) (journal_next found (record { pass = pass; act = a }) h adds.next does)

after_edit : (pass planner : ℕ) (edit : Edit) (r : Result ℕ Rule) (found after : List Entry) → IsJournal found
    → EditsTo pass planner edit found r after
    → ((p : ℕ) → 1 ≤ p → (u : Task) → (if eqb planner p then Some (task.Edit edit) else None) ≡ Some u → next_task found p ≡ Some u)
    → IsJournal after
after_edit pass planner edit (Ok at) found after h does next = after_entry pass _ found after h does next
after_edit pass planner edit (Err rule) found after h does next = after_entry pass _ found after h does next

after_step : (pass planner : ℕ) (s : Stepped) (found after : List Entry) → IsJournal found → StepsTo pass planner found s after
    → IsJournal after
after_step pass planner (stepped.Edited at) found after h does =
    after_edit pass planner does.edit (Ok at) found after h does.edits (next_of found planner (task.Edit does.edit) does.next)
after_step pass planner (stepped.Refused rule) found after h does =
    after_edit pass planner does.edit (Err rule) found after h does.edits (next_of found planner (task.Edit does.edit) does.next)
after_step pass planner (stepped.Asked a) found after h does =
    after_entry pass _ found after h does.asks.adds (next_of found planner (task.Ask does.section) does.next)
after_step pass planner stepped.Ended found after h does = subst IsJournal (sym does.1) h

after_publication : (pass : ℕ) (done : Done) (r : Result (Unit {0}) NotTaken) (found after : List Entry) → IsJournal found
    → PublishesTo pass done found r after → IsJournal after
after_publication pass done (Ok u) found after h does =
    after_entry pass _ found after h does (λ planner from u none. nothing_done found planner u none)
after_publication pass done (Err (not_taken.Stale by)) found after h does = subst IsJournal (sym does.0) h
after_publication pass done (Err (not_taken.Current at)) found after h does = subst IsJournal (sym does.0) h

pub calls_leave_journals : CallsLeaveJournals
calls_leave_journals found after h = record {
  edit = λ pass edit r does. after_edit pass 0 edit r found after h does (outside found (task.Edit edit));
  ask = λ pass section a does. after_entry pass _ found after h does.adds (outside found (task.Ask section));
  step = λ pass planner s is_planner does. after_step pass planner s found after h does;
  publish = λ pass done r does. after_publication pass done r found after h does;
  enter = λ pass number does.
      after_entry pass _ found after h does (λ planner from u none. nothing_done found planner u none);
}
