use Rattle.std.proofs.Common.{◌≡◌, ℕ, zero, suc, ◌-◌, List, [], ◌∷◌, ◌++◌, length, Result, Ok, Err, Some, OnOk, OnErr, refl, sym, ap, ◌∙◌}
use Rattle.std.specs.Prelude.{slice_get, slice_set}
use Rattle.std.proofs.lemmas.Option.{get_or_from_slice_get}
use Rattle.plan_model.specs.declared.scripts.Task.{Task}
use Rattle.plan_model.specs.Journal.{with_task}
use Rattle.plan_model.proofs.scripts.Scripts.push.Goals as goal

-- the last script is written back with a task more
one_more : {A E : Type 0} (xs was : List (List Task)) (n : ℕ) (old new : List Task) (task : Task) (r : Result A E)
    → was ≡ xs → n ≡ length xs → slice_get xs (n - 1) ≡ Some old → OnOk r (new ≡ old ++ task ∷ [])
    → OnOk r (slice_set xs (n - 1) new ≡ with_task was task)
one_more xs was n old new task (Ok a) same count at e =
    rw (e, same, sym count, get_or_from_slice_get xs (n - 1) old [] at) refl
one_more xs was n old new task (Err x) same count at e = tt

-- an item that is written back as it was leaves the list
same_again : {X : Type 0} (xs : List X) (i : ℕ) (x : X) → slice_get xs i ≡ Some x → slice_set xs i x ≡ xs
same_again [] i x h = refl
same_again (y ∷ ys) zero x h = ap (λ z. z ∷ ys) (cc)
same_again (y ∷ ys) (suc i) x h = ap (λ zs. y ∷ zs) (same_again ys i x h)

written_back : {X A E : Type 0} (xs was : List X) (i : ℕ) (old new : X) (r : Result A E) → was ≡ xs
    → slice_get xs i ≡ Some old → OnErr r (new ≡ old) → OnErr r (slice_set xs i new ≡ was)
written_back xs was i old new (Ok a) same h e = tt
written_back xs was i old new (Err x) same h e = rw e (same_again xs i old h ∙ sym same)

pub returns-clause-ok : goal.returns-clause-ok
returns-clause-ok c =
    one_more _ _ _ _ _ _ _ (sym c.self.view_is) c.len-last.ensures.count c.get_mut.ensures.item c.push.ensures.ok

pub returns-clause-err : goal.returns-clause-err
returns-clause-err c = written_back _ _ _ _ _ _ (sym c.self.view_is) c.get_mut.ensures.item c.push.ensures.err
