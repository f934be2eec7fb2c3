-- How many tasks are left.
use Rattle.std.proofs.Common.{◌≡◌, ℕ, ◌+◌, ◌-◌, ◌<◌, ◌≤◌, List, [], ◌∷◌, length, get_or, take, sym, ap, ◌∙◌, subst, arith, length-append}
use Rattle.std.specs.Prelude.{sum_by}
use Rattle.std.specs.List.{range_with_len}
use Rattle.std.proofs.lemmas.List.{length-drop}
use Rattle.std.proofs.lemmas.List.FromFn.{get_or-range_with_len, length-range_with_len}
use Rattle.std.proofs.lemmas.List.Sums.{sum_by-append, sum_by_more, sum_by-take-le}
use Rattle.rail_model.proofs.Lists.{range_more}
use Rattle.plan_model.specs.declared.scripts.Task.{Task}
use Rattle.plan_model.specs.declared.journal.Entry.{Entry}
use Rattle.plan_model.specs.Journal.{opening, planners, done_by, script_of, left_of}
use Rattle.plan_model.specs.Legal.{KeepsToScript, IsJournal}
use Rattle.plan_model.proofs.Working.{script_is}
use Rattle.plan_book.specs.Kept.{AreDone}

-- as many tasks are left as a script has more than are done
pub left_count : (journal : List Entry) (planner : ℕ)
    → length (left_of journal planner) ≡ length (script_of journal planner) - length (done_by journal planner)
left_count journal planner = length-drop (length (done_by journal planner)) (script_of journal planner)

-- a planner has done no more tasks than its script has
pub done_within : (journal : List Entry) (k : ℕ) → IsJournal journal → k < length (opening journal).scripts
    → length (done_by journal (k + 1)) ≤ length (script_of journal (k + 1))
done_within journal k h within =
    let count = length (opening journal).scripts in
    let place : get_or (planners journal) k 0 ≡ k + 1 = get_or-range_with_len 1 count k 0 within ∙ omega arith in
    let keeps : KeepsToScript journal (k + 1) =
    subst (KeepsToScript journal) place (h.scripts k 0 (omega (arith, length-range_with_len 1 count, within))) in
    omega (arith, ap length keeps.1, length-append (done_by journal (k + 1)) keeps.0)

-- the tasks that are left to the first planners, with one planner more
pub left_more : (journal : List Entry) (k : ℕ)
    → sum_by (λ p. length (left_of journal p)) (range_with_len 1 (k + 1))
    ≡ sum_by (λ p. length (left_of journal p)) (range_with_len 1 k) + length (left_of journal (k + 1))
left_more journal k =
    let f = λ (p : ℕ). length (left_of journal p) in
    ap (sum_by f) (range_more 1 k (k + 1) (omega arith))
    ∙ sum_by-append f (range_with_len 1 k) ((k + 1) ∷ []) ∙ omega arith

-- they are no more than those of the scripts
pub scripts_more : (scripts : List (List Task)) (k : ℕ) → k < length scripts
    → sum_by length (take (k + 1) scripts) ≡ sum_by length (take k scripts) + length (get_or scripts k [])
scripts_more scripts k within = sum_by_more length scripts k [] within

pub scripts_most : (scripts : List (List Task)) (k : ℕ) → sum_by length (take k scripts) ≤ sum_by length scripts
scripts_most scripts k = sum_by-take-le length scripts k

module _ (journal : List Entry) (done : List ℕ) (k left : ℕ) (script : List Task) (is_journal : IsJournal journal) (are : AreDone journal done) (below : k < length done) (is : script ≡ get_or (opening journal).scripts k []) where
  within : k < length (opening journal).scripts
  within = omega (arith, are.count, below)

  same_script : length script ≡ length (script_of journal (k + 1))
  same_script = ap length (is ∙ sym (script_is (opening journal).scripts k))

  pub enough : get_or done k 0 ≤ length script
  enough = omega (arith, are.each k below, done_within journal k is_journal within, same_script)

  here : length (left_of journal (k + 1)) ≡ length script - get_or done k 0
  here = omega (arith, left_count journal (k + 1), are.each k below, same_script)

  pub left_next : left ≡ sum_by (λ (p : ℕ). length (left_of journal p)) (range_with_len 1 k)
      → left + (length script - get_or done k 0) ≡ sum_by (λ (p : ℕ). length (left_of journal p)) (range_with_len 1 (k + 1))
  left_next so_far = omega (arith, so_far, left_more journal k, here)

  pub most_next : left ≤ sum_by length (take k (opening journal).scripts)
      → left + (length script - get_or done k 0) ≤ sum_by length (take (k + 1) (opening journal).scripts)
  most_next so_far = omega (arith, so_far, scripts_more (opening journal).scripts k within, ap length is)
