-- Scripts grow by a task at the end of the last.
use Rattle.std.proofs.Common.{◌≡◌, ℕ, ◌+◌, ◌-◌, List, [], ◌∷◌, ◌++◌, length, slice_set, slice_index_or, sym, ap, refl, ◌∙◌, append_assoc, length-append, arith}
use Rattle.std.proofs.Math.Seq.{set-append_seam}
use Rattle.std.proofs.lemmas.List.FromFn.{map-range_with_len_more}
use Rattle.rail_model.specs.declared.items.Run.{Run}
use Rattle.rail_model.proofs.Lists.{flat_map-range_more}
use Rattle.plan_model.specs.declared.scripts.Task.{Task}
use Rattle.plan_model.specs.Journal.{with_task}
use Rattle.made_line.specs.Base.{change_task, ask_task, first_tasks, first_scripts}

last_script : (scripts : List (List Task)) (tasks : List Task)
    → slice_index_or (scripts ++ tasks ∷ []) (length scripts) [] ≡ tasks
last_script [] tasks = refl
last_script (script ∷ scripts) tasks = last_script scripts tasks

pub with_task-last : (scripts : List (List Task)) (tasks : List Task) (t : Task)
    → with_task (scripts ++ tasks ∷ []) t ≡ scripts ++ (tasks ++ t ∷ []) ∷ []
with_task-last scripts tasks t =
    let all = scripts ++ tasks ∷ [] in
    let last : length all - 1 ≡ length scripts = omega (arith, length-append scripts (tasks ∷ [])) in
    ap (λ i. slice_set all i (slice_index_or all i [] ++ t ∷ [])) last
    ∙ ap (λ ts. slice_set all (length scripts) (ts ++ t ∷ [])) (last_script scripts tasks)
    ∙ set-append_seam scripts tasks [] (tasks ++ t ∷ [])

pub no_tasks : (runs : List Run) (p : ℕ) → first_tasks runs p 0 ≡ []
unfolding first_tasks
no_tasks runs p = refl

pub two_more : (scripts : List (List Task)) (runs : List Run) (p k : ℕ)
    → with_task (with_task (scripts ++ first_tasks runs p k ∷ []) (change_task runs p k)) (ask_task k)
    ≡ scripts ++ first_tasks runs p (k + 1) ∷ []
unfolding first_tasks
two_more scripts runs p k =
    let tasks = first_tasks runs p k in
    let change = change_task runs p k in
    ap (λ all. with_task all (ask_task k)) (with_task-last scripts tasks change)
    ∙ with_task-last scripts (tasks ++ change ∷ []) (ask_task k)
    ∙ ap (λ ts. scripts ++ ts ∷ [])
    (append_assoc tasks (change ∷ []) (ask_task k ∷ [])
    ∙ sym (flat_map-range_more (λ j. change_task runs p j ∷ ask_task j ∷ []) k))

pub no_scripts : (runs : List Run) → first_scripts runs 0 ≡ []
unfolding first_scripts
no_scripts runs = refl

pub first_scripts-more : (runs : List Run) (k : ℕ)
    → first_scripts runs (k + 1) ≡ first_scripts runs k ++ first_tasks runs (k + 1) 16 ∷ []
unfolding first_scripts
first_scripts-more runs k = map-range_with_len_more (λ p. first_tasks runs p 16) 1 k (k + 1) (omega arith)
