-- Tasks that planners do, one after the other.
use Rattle.std.proofs.Common.{◌≡◌, ℕ, zero, suc, ◌^◌, ◌<◌, ◌≤◌, Bool, if◌then◌else◌, List, [], ◌∷◌, length, drop, get_or, Some, None, Result, Ok, Err, refl, ap, subst, inl, inr, arith}
use Rattle.std.specs.Prelude.{true, false, is_some, slice_get}
use Rattle.std.proofs.lemmas.List.Sums.{get_or-le-sum_by}
use Rattle.rail_model.specs.declared.edit.Edit.{Edit}
use Rattle.rail_model.specs.declared.edit.Rule.{Rule}
use Rattle.plan_model.specs.declared.scripts.Task.{Task}
use Rattle.plan_model.specs.declared.scripts.Task.TheVariants as task
use Rattle.plan_model.specs.declared.journal.Entry.{Entry}
use Rattle.plan_model.specs.declared.outcome.Asked.{Asked}
use Rattle.plan_model.specs.declared.outcome.Stepped.TheVariants as stepped
use Rattle.plan_model.specs.Journal.{opening}
use Rattle.plan_model.specs.Legal.{IsJournal}
use Rattle.plan_model.specs.Outcome.{IsPlanner, next_task, EditsTo, AsksTo}
use Rattle.plan_model.proofs.Working.{script_is, calls_leave_journals}
use Rattle.plan_book.specs.Kept.{IsWithin, AreDone, MayDo}
use Rattle.plan_book.proofs.Left.{done_within}

pub some_if : (b : Bool) (t : Task) → is_some (if b then Some t else None) ≡ b
some_if true t = refl
some_if false t = refl

pub planner_within : (journal : List Entry) (planner : ℕ) (t : Task) → MayDo journal planner t → planner ≤ length (opening journal).scripts
planner_within journal planner t (inl out) = omega (arith, out)
planner_within journal planner t (inr next) = next.0.to_last

by_step : (pass planner : ℕ) (edit : Edit) (r : Result ℕ Rule) (found after : List Entry) → IsJournal found → IsPlanner found planner
    → next_task found planner ≡ Some (task.Edit edit) → EditsTo pass planner edit found r after → IsJournal after
by_step pass planner edit (Ok at) found after h is next does = (calls_leave_journals found after h).step pass planner (stepped.Edited at) is (record { edit = edit; next = next; edits = does })
by_step pass planner edit (Err rule) found after h is next does = (calls_leave_journals found after h).step pass planner (stepped.Refused rule) is (record { edit = edit; next = next; edits = does })

-- after an edit that may be done the journal is one of planners at work
pub journal_edited : (pass planner : ℕ) (edit : Edit) (r : Result ℕ Rule) (found after : List Entry) → IsJournal found
    → MayDo found planner (task.Edit edit) → EditsTo pass planner edit found r after → IsJournal after
journal_edited pass planner edit r found after h (inl out) does =
    (calls_leave_journals found after h).edit pass edit r (subst (λ p. EditsTo pass p edit found r after) out does)
journal_edited pass planner edit r found after h (inr next) does = by_step pass planner edit r found after h next.0 next.1 does

-- and after a question
pub journal_asked : (pass planner : ℕ) (section : List ℕ) (a : Asked) (found after : List Entry) → IsJournal found
    → MayDo found planner (task.Ask section) → AsksTo pass planner section found a after → IsJournal after
journal_asked pass planner section a found after h (inl out) does =
    (calls_leave_journals found after h).ask pass section a (subst (λ p. AsksTo pass p section found a after) out does)
journal_asked pass planner section a found after h (inr next) does =
    (calls_leave_journals found after h).step pass planner (stepped.Asked a) next.0 (record { section = section; next = next.1; asks = does })

-- no planner has done more tasks than there are in all scripts
pub few_done : (journal : List Entry) (done : List ℕ) → IsJournal journal → IsWithin (opening journal) → AreDone journal done
    → (k : ℕ) → k < length done → get_or done k 0 < 2 ^ 63
few_done journal done h within are k l =
    let there : k < length (opening journal).scripts = omega (arith, are.count, l) in
    omega (arith, are.each k l, done_within journal k h there, ap length (script_is (opening journal).scripts k), get_or-le-sum_by length (opening journal).scripts k [] there, within.tasks)

pub next_at : {X : Type 0} (xs : List X) (n : ℕ) → slice_get (drop n xs) 0 ≡ slice_get xs n
next_at xs zero = refl
next_at [] (suc n) = refl
next_at (x ∷ xs) (suc n) = next_at xs n
