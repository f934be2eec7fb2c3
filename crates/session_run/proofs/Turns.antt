-- Tasks that are done one after the other, each after the sections were made current.
use Rattle.std.proofs.Common.{◌≡◌, ℕ, ◌<◌, ◌==◌, eqb, if◌then◌else◌, List, [], ◌∷◌, ◌++◌, length, Option, Some, None, refl, sym, ap, ◌∙◌, subst, inl, inr, arith, append_assoc, append-nil, length-append}
use Rattle.std.specs.Prelude.{All, filter_map}
use Rattle.std.specs.List.{cons_option}
use Rattle.std.proofs.lemmas.Bool.{cases_Bool, eqb-true}
use Rattle.std.proofs.lemmas.List.Elements.{All-tail}
use Rattle.plan_model.specs.declared.scripts.Task.{Task}
use Rattle.plan_model.specs.declared.scripts.Task.TheVariants as task
use Rattle.plan_model.specs.declared.journal.Act.{Act}
use Rattle.plan_model.specs.declared.journal.Act.TheVariants as act
use Rattle.plan_model.specs.declared.journal.Entry.{Entry}
use Rattle.plan_model.specs.Journal.{opening, task_of, done_by}
use Rattle.plan_model.proofs.Growing.{opening-more, done_by-more}
use Rattle.plan_model.proofs.Touching.{same_one}
use Rattle.session_run.specs.Turns.{IsPublication, HasCaughtUp, DoesTask, DoesTasks}

-- the tasks of one planner among those of all
abbrev pub of_planner : ℕ → ℕ × Task → Option Task
of_planner planner (by, t) = if by == planner then Some t else None

abbrev pub tasks_for : ℕ → List (ℕ × Task) → List Task
tasks_for planner tasks = filter_map (of_planner planner) tasks

-- publications do no task
no_tasks : (planner : ℕ) (es : List Entry) → All IsPublication es → done_by es planner ≡ []
unfolding done_by
no_tasks planner [] h = refl
no_tasks planner (e ∷ es) h =
    let first : IsPublication e = h 0 e (omega arith) in
    rw first.is (no_tasks planner es (All-tail IsPublication e es h))

pub nothing_done : (planner : ℕ) (found after : List Entry) → HasCaughtUp found after → done_by after planner ≡ done_by found planner
nothing_done planner found after h =
    ap (λ j. done_by j planner) h.is ∙ done_by-more found h.publications planner
    ∙ ap (λ ts. done_by found planner ++ ts) (no_tasks planner h.publications h.made)
    ∙ append-nil (done_by found planner)

pub same_opening : (found after : List Entry) → 0 < length found → HasCaughtUp found after → opening after ≡ opening found
same_opening found after some h = ap opening h.is ∙ opening-more found h.publications some

-- ---- the tasks of each planner

-- who does a task
pub doer : (by planner : ℕ) (t u : Task) → (if eqb by planner then Some t else None) ≡ Some u → by ≡ planner
doer by planner t u h =
    elim (cases_Bool (eqb by planner)) [
      | inl same ↦ eqb-true by planner same
      | inr apart ↦ let none : None ≡ Some u = sym (rw apart refl) ∙ h in absurd (cc)
    ]

if_same : (by planner p : ℕ) (t u : Task) → (if eqb by planner then Some t else None) ≡ Some u
    → (if eqb by p then Some t else None) ≡ of_planner p (planner, u)
if_same by planner p t u h =
    elim (cases_Bool (eqb by planner)) [
      | inl same ↦
          let is : t ≡ u = same_one t u (sym (rw same refl) ∙ h) in
          rw (eqb-true by planner same, is) refl
      | inr apart ↦ let none : None ≡ Some u = sym (rw apart refl) ∙ h in absurd (cc)
    ]

none_is : (p : ℕ) (o : Option Task) (t : Task) → None ≡ Some t → None ≡ o
none_is p o t h = absurd (cc)

-- an act that does a task of a planner does it for nobody else
does_for : (planner p : ℕ) (t : Task) (a : Act) → task_of planner a ≡ Some t → task_of p a ≡ of_planner p (planner, t)
does_for planner p t (act.Opened tables at scripts) h = none_is p _ t h
does_for planner p t (act.Entered number) h = none_is p _ t h
does_for planner p t (act.Edited by at edit) h = if_same by planner p (task.Edit edit) t h
does_for planner p t (act.Refused by rule edit) h = if_same by planner p (task.Edit edit) t h
does_for planner p t (act.Asked by section reply) h = if_same by planner p (task.Ask section) t h
does_for planner p t (act.Published section at answer) h = none_is p _ t h

one_done : (planner p : ℕ) (t : Task) (found after : List Entry) → DoesTask planner t found after
    → done_by after p ≡ done_by found p ++ cons_option (of_planner p (planner, t)) []
unfolding done_by
one_done planner p t found after h =
    ap (λ j. done_by j p) h.is ∙ done_by-more h.ready (h.entry ∷ []) p
    ∙ ap (λ ts. ts ++ done_by (h.entry ∷ []) p) (nothing_done p found h.ready h.caught_up)
    ∙ ap (λ o. done_by found p ++ cons_option o []) (does_for planner p t h.entry.act h.does)

cons_option_is : {X : Type 0} (o : Option X) (xs : List X) → cons_option o [] ++ xs ≡ cons_option o xs
cons_option_is None xs = refl
cons_option_is (Some x) xs = refl

pub all_done : (tasks : List (ℕ × Task)) (p : ℕ) (found after : List Entry) → DoesTasks found tasks after
    → done_by after p ≡ done_by found p ++ tasks_for p tasks
all_done [] p found after h = ap (λ j. done_by j p) h ∙ sym (append-nil (done_by found p))
all_done ((planner, t) ∷ tasks) p found after h =
    all_done tasks p h.0 after h.2 ∙ ap (λ ts. ts ++ tasks_for p tasks) (one_done planner p t found h.0 h.1)
    ∙ append_assoc (done_by found p) (cons_option (of_planner p (planner, t)) []) (tasks_for p tasks)
    ∙ ap (λ ts. done_by found p ++ ts) (cons_option_is (of_planner p (planner, t)) (tasks_for p tasks))

-- ---- more tasks

pub one_task_more : (tasks : List (ℕ × Task)) (planner : ℕ) (t : Task) (found now after : List Entry)
    → DoesTasks found tasks now → DoesTask planner t now after → DoesTasks found (tasks ++ (planner, t) ∷ []) after
one_task_more [] planner t found now after h more =
    (after, subst (λ j. DoesTask planner t j after) h more, refl)
one_task_more ((p, u) ∷ tasks) planner t found now after h more =
    (h.0, h.1, one_task_more tasks planner t h.0 now after h.2 more)

pub tasks_more : (tasks others : List (ℕ × Task)) (found now after : List Entry)
    → DoesTasks found tasks now → DoesTasks now others after → DoesTasks found (tasks ++ others) after
tasks_more [] others found now after h more = subst (λ j. DoesTasks j others after) h more
tasks_more ((p, u) ∷ tasks) others found now after h more =
    (h.0, h.1, tasks_more tasks others h.0 now after h.2 more)

-- tasks leave the opening
pub task_opening : (planner : ℕ) (t : Task) (found after : List Entry) → 0 < length found → DoesTask planner t found after
    → (0 < length after) × (opening after ≡ opening found)
task_opening planner t found after some h =
    let some_ready : 0 < length h.ready =
    omega (arith, ap length h.caught_up.is, length-append found h.caught_up.publications, some) in (
      omega (arith, ap length h.is, length-append h.ready (h.entry ∷ [])),
      ap opening h.is ∙ opening-more h.ready (h.entry ∷ []) some_ready ∙ same_opening found h.ready some h.caught_up,
    )

pub tasks_opening : (tasks : List (ℕ × Task)) (found after : List Entry) → 0 < length found → DoesTasks found tasks after
    → (0 < length after) × (opening after ≡ opening found)
tasks_opening [] found after some h = (subst (λ j. 0 < length j) (sym h) some, ap opening h)
tasks_opening ((planner, t) ∷ tasks) found after some h =
    let one = task_opening planner t found h.0 some h.1 in
    let rest = tasks_opening tasks h.0 after one.0 h.2 in
    (rest.0, rest.1 ∙ one.1)
