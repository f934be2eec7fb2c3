-- The closed journal of a session: what all actors have left makes it one.
use Rattle.std.proofs.Common.{◌≡◌, ℕ, suc, ◌+◌, ◌-◌, ◌%◌, ◌<◌, ◌≤◌, ◌⊎◌, false, List, [], ◌∷◌, ◌++◌, length, map, get_or, Option, Some, None, refl, sym, ap, ◌∙◌, subst, inl, inr, arith, append_assoc, append-nil, length-append}
use Rattle.std.specs.Prelude.{All, nat_le}
use Rattle.std.specs.List.{range_with_len, cons_option}
use Rattle.std.proofs.lemmas.Bool.{cases_Bool, cases_lt}
use Rattle.std.proofs.lemmas.Bool.Decides.{nat_tests}
use Rattle.std.proofs.lemmas.List.{ext_get_or, get_or_default}
use Rattle.std.proofs.lemmas.List.Elements.{All-nil, All-cons, All-tail, All-append, All-map, All-weaker}
use Rattle.std.proofs.lemmas.List.FromFn.{get_or-range_with_len, length-range_with_len, get_or-map-range_with_len, length-map-range_with_len}
use Rattle.rail_model.specs.declared.tables.Tables.{Tables}
use Rattle.rail_model.specs.Tables.{no_section}
use Rattle.plan_model.specs.declared.scripts.Task.{Task}
use Rattle.plan_model.specs.declared.scripts.Task.TheVariants as task
use Rattle.plan_model.specs.declared.journal.Act.{Act}
use Rattle.plan_model.specs.declared.journal.Act.TheVariants as act
use Rattle.plan_model.specs.declared.journal.Entry.{Entry}
use Rattle.plan_model.specs.Journal.{Opening, opening, edit_of, edits, tables_of, issues, issued, task_of, done_by, script_of, tasks_left, script}
use Rattle.plan_model.specs.Legal.{IsCurrent, IsNext, IsLegal, KeepsToScript, IsJournal}
use Rattle.plan_model.specs.Outcome.{IsPlanner, ShareIsCurrent}
use Rattle.plan_model.specs.Session.{opened, entered, IsMade, IsSession}
use Rattle.plan_model.proofs.Growing.{opening-more, done_by-more, issued-more}
use Rattle.plan_model.proofs.Legality.{legal_has_one, each_is_next}
use Rattle.plan_model.proofs.TasksLeft.{none_is_left, none_of}
use Rattle.plan_model.proofs.Touching.{share_without_edits}
use Rattle.plan_model.proofs.Working.{script_is}
use Rattle.turn_desk.proofs.Growing.{all_right}
use Rattle.session_run.specs.Actors.{Role, Planner, Worker, role_at, DoesTaskOf, Publishes, IsBy, AreBy, HasRested, IsFinished}
use Rattle.session_run.proofs.Entered.{issues_none}
use Rattle.session_run.proofs.Turns.{doer}

-- ---- each later entry is of an actor

-- an entry is of the actor whose number it carries
record IsOfActor (planners workers : ℕ) (e : Entry) : Type 0 where
  pub from_one : 1 ≤ e.pass
  pub to_last : e.pass ≤ planners + workers
  pub by : IsBy (role_at planners workers e.pass) e.act

task_issues_none : (planner : ℕ) (a : Act) → DoesTaskOf planner a → issues a ≡ false
task_issues_none planner (act.Opened tables at scripts) h = refl
task_issues_none planner (act.Entered number) h = let is = h.is in absurd (cc)
task_issues_none planner (act.Edited by at edit) h = refl
task_issues_none planner (act.Refused by rule edit) h = refl
task_issues_none planner (act.Asked by section reply) h = refl
task_issues_none planner (act.Published section at answer) h = refl

actor_issues_none : (role : Role) (a : Act) → IsBy role a → issues a ≡ false
actor_issues_none (Planner planner) a h = task_issues_none planner a h
actor_issues_none (Worker share of) a h = rw h.is refl

module _ (planners workers : ℕ) (first : List Entry) (some : 0 < length first) where
  -- as none of the entries so far issues a pass, the next carries a number of an actor
  walk : (us ws : List Entry) → IsLegal ((first ++ us) ++ ws) → issued (first ++ us) ≡ planners + workers + 1
      → All (λ e. e.pass ≡ 0 → ⊥) ws
      → ((number : ℕ) → 1 ≤ number → number ≤ planners + workers → AreBy (role_at planners workers number) number ws)
      → All (IsOfActor planners workers) ws
  walk us [] legal count others by = All-nil _
  walk us (e ∷ ws) legal count others by =
      let next : IsNext (first ++ us) e = each_is_next (first ++ us) e ws (omega (arith, length-append first us, some)) legal in
      let from_one : 1 ≤ e.pass = elim (cases_lt 0 e.pass) [ inl l ↦ l | inr l ↦ absurd (others 0 e (omega arith) (omega (arith, l))) ] in
      let to_last : e.pass ≤ planners + workers = omega (arith, next.pass, count) in
      let here : IsOfActor planners workers e =
      record { from_one = from_one; to_last = to_last; by = by e.pass from_one to_last 0 e (omega arith) refl } in
      let none = issues_none e (actor_issues_none (role_at planners workers e.pass) e.act here.by) in
      let joined : (first ++ us) ++ e ∷ [] ≡ first ++ (us ++ e ∷ []) = append_assoc first us (e ∷ []) in
      let whole : (first ++ us) ++ e ∷ ws ≡ (first ++ (us ++ e ∷ [])) ++ ws =
      sym (append_assoc (first ++ us) (e ∷ []) ws) ∙ ap (λ j. j ++ ws) joined in
      All-cons (IsOfActor planners workers) e ws here
      (walk (us ++ e ∷ []) ws (subst IsLegal whole legal)
      (ap issued (sym joined) ∙ omega (arith, issued-more (first ++ us) (e ∷ []), none, count))
      (All-tail (λ e. e.pass ≡ 0 → ⊥) e ws others)
      (λ number from to. All-tail (λ e. e.pass ≡ number → IsBy (role_at planners workers number) e.act) e ws (by number from to)))

-- ---- entries are made by whom they should be

made_by_planner : (planners workers pass : ℕ) (a : Act) → 1 ≤ pass → pass ≤ planners → DoesTaskOf pass a → IsMade planners (suc workers) pass a
made_by_planner planners workers pass (act.Opened tables at scripts) from to h = let is = h.is in absurd (cc)
made_by_planner planners workers pass (act.Entered number) from to h = let is = h.is in absurd (cc)
made_by_planner planners workers pass (act.Edited by at edit) from to h =
    let same = doer by pass (task.Edit edit) h.task h.is in
    record { from_one = omega (arith, same, from); to_last = omega (arith, same, to); its_pass = sym same }
made_by_planner planners workers pass (act.Refused by rule edit) from to h =
    let same = doer by pass (task.Edit edit) h.task h.is in
    record { from_one = omega (arith, same, from); to_last = omega (arith, same, to); its_pass = sym same }
made_by_planner planners workers pass (act.Asked by section reply) from to h =
    let same = doer by pass (task.Ask section) h.task h.is in
    record { from_one = omega (arith, same, from); to_last = omega (arith, same, to); its_pass = sym same }
made_by_planner planners workers pass (act.Published section at answer) from to h = let is = h.is in absurd (cc)

pub planner_role : (planners workers number : ℕ) → number ≤ planners → role_at planners workers number ≡ Planner number
planner_role planners workers number l = elim (cases_Bool (nat_le number planners)) [
  | inl h ↦ rw h refl
  | inr h ↦ absurd (grind (arith, nat_tests))
]

pub worker_role : (planners workers number : ℕ) → planners < number → role_at planners workers number ≡ Worker (number - planners - 1) workers
worker_role planners workers number l = elim (cases_Bool (nat_le number planners)) [
  | inl h ↦ absurd (grind (arith, nat_tests))
  | inr h ↦ rw h refl
]

actor_made : (planners workers : ℕ) (e : Entry) → IsOfActor planners (suc workers) e → IsMade planners (suc workers) e.pass e.act
actor_made planners workers e h =
    elim (cases_lt planners e.pass) [
      | inl l ↦
          let by : Publishes e.act = subst (λ r. IsBy r e.act) (worker_role planners (suc workers) e.pass l) h.by in
          subst (IsMade planners (suc workers) e.pass) (sym by.is) (l, h.to_last)
      | inr l ↦
          made_by_planner planners workers e.pass e.act h.from_one l
          (subst (λ r. IsBy r e.act) (planner_role planners (suc workers) e.pass l) h.by)
    ]

-- ---- no edit comes once all tasks are done

-- an entry that edits is one of the planners'
abbrev EditsAsPlanner : ℕ → Entry → Type 0
EditsAsPlanner planners e = (edit_of e.act ≡ None) ⊎ ((planner : ℕ) × (1 ≤ planner) × (planner ≤ planners) × DoesTaskOf planner e.act)

actor_edits : (planners workers : ℕ) (e : Entry) → IsOfActor planners workers e → EditsAsPlanner planners e
actor_edits planners workers e h =
    elim (cases_lt planners e.pass) [
      | inl l ↦
          let by : Publishes e.act = subst (λ r. IsBy r e.act) (worker_role planners workers e.pass l) h.by in
          inl (rw by.is refl)
      | inr l ↦ inr (e.pass, h.from_one, l, subst (λ r. IsBy r e.act) (planner_role planners workers e.pass l) h.by)
    ]

none_first : {X : Type 0} (o : Option X) (xs : List X) → cons_option o xs ≡ [] → (o ≡ None) × (xs ≡ [])
none_first None xs h = (refl, h)
none_first (Some x) xs h = absurd (cc)

none_done : (e : Entry) (es : List Entry) (planner : ℕ) → done_by (e ∷ es) planner ≡ []
    → (task_of planner e.act ≡ None) × (done_by es planner ≡ [])
unfolding done_by
none_done e es planner h = none_first (task_of planner e.act) (done_by es planner) h

no_edits_more : (planners : ℕ) (es : List Entry) → ((planner : ℕ) → 1 ≤ planner → planner ≤ planners → done_by es planner ≡ [])
    → All (EditsAsPlanner planners) es → edits es ≡ []
no_edits_more planners [] none h = refl
no_edits_more planners (e ∷ es) none h =
    let here : edit_of e.act ≡ None = elim (h 0 e (omega arith)) [
      | inl is ↦ is
      | inr (planner, from, to, does) ↦
          let both : Some does.task ≡ None = sym does.is ∙ (none_done e es planner (none planner from to)).0 in absurd (cc)
    ] in
    rw here
    (no_edits_more planners es (λ planner from to. (none_done e es planner (none planner from to)).1)
    (All-tail (EditsAsPlanner planners) e es h))

-- a planner keeps to its script
keeps_to_script : (log : List Entry) (planner : ℕ) → IsJournal log → IsPlanner log planner → KeepsToScript log planner
keeps_to_script log planner h is_planner =
    let count = length (opening log).scripts in
    let place : get_or (range_with_len 1 count) (planner - 1) planner ≡ planner =
    get_or-range_with_len 1 count (planner - 1) planner (omega (arith, is_planner.from_one, is_planner.to_last))
    ∙ omega (arith, is_planner.from_one) in
    subst (KeepsToScript log) place
    (h.scripts (planner - 1) planner (omega (arith, length-range_with_len 1 count, is_planner.from_one, is_planner.to_last)))

same_front : (done more script left : List Task) → script ≡ done → script ≡ (done ++ more) ++ left → more ≡ []
same_front done [] script left is whole = refl
same_front done (t ∷ more) script left is whole =
    absurd (omega (arith, ap length is, ap length whole, length-append (done ++ t ∷ more) left, length-append done (t ∷ more)))

-- a planner that has done as many tasks as its script has has done its script
done_is_script : (log : List Entry) (planner : ℕ) → IsJournal log → IsPlanner log planner
    → length (script_of log planner) ≤ length (done_by log planner) → done_by log planner ≡ script_of log planner
done_is_script log planner h is_planner finished =
    let keeps = keeps_to_script log planner h is_planner in
    let none : keeps.0 ≡ [] = none_of keeps.0 (omega (arith, ap length keeps.1, length-append (done_by log planner) keeps.0, finished)) in
    sym (keeps.1 ∙ ap (λ ts. done_by log planner ++ ts) none ∙ append-nil (done_by log planner))

-- once no task is left, none is done
nothing_more : (found more : List Entry) (planner : ℕ) → 0 < length found → IsJournal found → IsJournal (found ++ more)
    → tasks_left found ≡ 0 → IsPlanner found planner → done_by more planner ≡ []
nothing_more found more planner some h whole none is_planner =
    let same = opening-more found more some in
    let later : IsPlanner (found ++ more) planner = record { from_one = is_planner.from_one; to_last = rw same is_planner.to_last } in
    let keeps = keeps_to_script (found ++ more) planner whole later in
    same_front (done_by found planner) (done_by more planner) (script_of found planner) keeps.0
    (sym (none_is_left found planner h none is_planner))
    (ap (λ (o : Opening). script o.scripts planner) (sym same) ∙ keeps.1 ∙ ap (λ ts. ts ++ keeps.0) (done_by-more found more planner))

-- ---- the session

module _ (tables : Tables) (at : ℕ) (scripts : List (List Task)) (workers : ℕ) (log rest : List Entry) where
  abbrev planners : ℕ
  planners = length scripts

  abbrev first : List Entry
  first = opened tables at scripts ∷ entered (planners + suc workers)

  -- what is known of the closed journal
  pub record IsClosed : Type 0 where
    pub is : log ≡ first ++ rest
    pub is_journal : IsJournal log
    pub issued_first : issued first ≡ planners + suc workers + 1
    pub others : All (λ e. e.pass ≡ 0 → ⊥) rest
    pub by : (number : ℕ) → 1 ≤ number → number ≤ planners + suc workers → AreBy (role_at planners (suc workers) number) number log
    pub finished : (number : ℕ) → 1 ≤ number → number ≤ planners + suc workers → IsFinished (role_at planners (suc workers) number) log

  module _ (h : IsClosed) where
    of_actors : All (IsOfActor planners (suc workers)) rest
    of_actors =
        let same : first ≡ first ++ [] = sym (append-nil first) in
        walk planners (suc workers) first (omega arith) [] rest
        (subst IsLegal (h.is ∙ ap (λ f. f ++ rest) same) h.is_journal.legal) (ap issued (sym same) ∙ h.issued_first) h.others
        (λ number from to.
        all_right (λ e. e.pass ≡ number → IsBy (role_at planners (suc workers) number) e.act) first rest
        (subst (AreBy (role_at planners (suc workers) number) number) h.is (h.by number from to)))

    opening_is : opening log ≡ record { tables = tables; at = at; scripts = scripts }
    opening_is = ap opening h.is

    -- each planner has done its script
    all_done : (k : ℕ) → k < planners → done_by log (k + 1) ≡ get_or scripts k []
    all_done k l =
        let to : k + 1 ≤ planners + suc workers = omega (arith, l) in
        let finished : IsFinished (Planner (k + 1)) log =
        subst (λ r. IsFinished r log) (planner_role planners (suc workers) (k + 1) (omega (arith, l))) (h.finished (k + 1) (omega arith) to) in
        let count : length (opening log).scripts ≡ planners = ap (λ (o : Opening). length o.scripts) opening_is in
        let is_planner : IsPlanner log (k + 1) = record { from_one = omega arith; to_last = omega (arith, count, l) } in
        done_is_script log (k + 1) h.is_journal is_planner finished
        ∙ ap (λ (o : Opening). script o.scripts (k + 1)) opening_is ∙ script_is scripts k

    -- every edit is a planner's
    edits_as_planner : All (EditsAsPlanner planners) log
    edits_as_planner =
        let P = EditsAsPlanner planners in
        subst (All P) (sym h.is)
        (All-append P first rest
        (All-cons P (opened tables at scripts) (entered (planners + suc workers)) (inl refl)
        (All-map P (λ number. record { pass = 0; act = act.Entered number }) (range_with_len 1 (planners + suc workers)) (λ k d l. inl refl)))
        (All-weaker (IsOfActor planners (suc workers)) P (actor_edits planners (suc workers)) rest of_actors))

    -- a share at which a worker has rested stays current
    share_current : (share : ℕ) → share < suc workers → ShareIsCurrent share (suc workers) log
    share_current share l =
        let number = planners + share + 1 in
        let role : role_at planners (suc workers) number ≡ Worker share (suc workers) =
        worker_role planners (suc workers) number (omega arith) ∙ ap (λ s. Worker s (suc workers)) (omega arith) in
        let rested : HasRested share (suc workers) log =
        subst (λ r. IsFinished r log) role (h.finished number (omega arith) (omega (arith, l))) in
        let some = legal_has_one rested.found rested.is_journal.legal in
        let legal : IsLegal (rested.found ++ rested.more) = subst IsLegal rested.is h.is_journal.legal in
        let journal : IsJournal (rested.found ++ rested.more) = subst IsJournal rested.is h.is_journal in
        let opening_found : opening rested.found ≡ record { tables = tables; at = at; scripts = scripts } =
        sym (opening-more rested.found rested.more some) ∙ ap opening (sym rested.is) ∙ opening_is in
        let none : (planner : ℕ) → 1 ≤ planner → planner ≤ planners → done_by rested.more planner ≡ [] =
        (λ planner from to.
        nothing_more rested.found rested.more planner some rested.is_journal journal rested.none_left
        (record { from_one = from; to_last = omega (arith, to, ap (λ (o : Opening). length o.scripts) opening_found) })) in
        subst (ShareIsCurrent share (suc workers)) (sym rested.is)
        (share_without_edits share (suc workers) rested.found rested.more some legal
        (no_edits_more planners rested.more none
        (all_right (EditsAsPlanner planners) rested.found rested.more (subst (All (EditsAsPlanner planners)) rested.is edits_as_planner)))
        rested.current)

    pub is_session : IsSession tables at scripts (suc workers) log
    is_session = record {
      rest = rest;
      is = h.is;
      legal = h.is_journal.legal;
      made = All-weaker (IsOfActor planners (suc workers)) (λ e. IsMade planners (suc workers) e.pass e.act) (actor_made planners workers) rest of_actors;
      done =
          ext_get_or [] (map (done_by log) (range_with_len 1 planners)) scripts (length-map-range_with_len (done_by log) 1 planners)
          (λ i l.
          let below : i < planners = omega (arith, l, length-map-range_with_len (done_by log) 1 planners) in
          get_or-map-range_with_len (done_by log) 1 planners i (i + 1) [] below (omega arith) ∙ all_done i below);
      current = λ k d l.
          subst (λ s. IsCurrent log s.name) (get_or_default (tables_of log).sections k no_section d l)
          (share_current (k % suc workers) (omega arith) k (record { there = l; rest = refl }));
    }
