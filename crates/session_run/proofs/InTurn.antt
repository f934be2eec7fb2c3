-- The tasks of all planners in turn, and the session that they make.
use Rattle.std.proofs.Common.{◌≡◌, ℕ, zero, suc, ◌+◌, ◌<◌, ◌≤◌, ◌⊎◌, eqb, List, [], ◌∷◌, ◌++◌, length, map, get_or, take, Some, refl, sym, ap, ◌∙◌, subst, inl, inr, arith, append_assoc, append-nil}
use Rattle.std.specs.Prelude.{All, flat_map}
use Rattle.std.specs.List.{enumerate_from, range_with_len}
use Rattle.std.proofs.lemmas.Bool.{cases_Bool, eqb-true, eq-eqb}
use Rattle.std.proofs.lemmas.List.{take_more, ext_get_or, length-take-le, take_all}
use Rattle.std.proofs.lemmas.List.Elements.{All-cons, All-append, All-weaker, filter_map-append}
use Rattle.std.proofs.lemmas.List.FromFn.{get_or-map-range_with_len, length-map-range_with_len}
use Rattle.std.proofs.lemmas.Grind.{flat_map-append}
use Rattle.rail_model.specs.declared.tables.Tables.{Tables}
use Rattle.plan_model.specs.declared.scripts.Task.{Task}
use Rattle.plan_model.specs.declared.journal.Act.{Act}
use Rattle.plan_model.specs.declared.journal.Act.TheVariants as act
use Rattle.plan_model.specs.declared.journal.Entry.{Entry}
use Rattle.plan_model.specs.declared.scripts.Task.TheVariants as task
use Rattle.plan_model.specs.Journal.{Opening, opening, task_of, done_by, script_of, script}
use Rattle.plan_model.specs.Legal.{IsLegal}
use Rattle.plan_model.specs.Outcome.{IsPlanner}
use Rattle.plan_model.proofs.Working.{script_is}
use Rattle.plan_model.specs.Session.{opened, IsMade, AllAreCurrent, tasks_in_turn, GoesInTurn, IsSessionAlone}
use Rattle.section_cut.proofs.Lists.{enumerate_push}
use Rattle.session_run.specs.Turns.{IsPublication, HasCaughtUp, DoesTasks, by_planner, NothingIsDone, DoesScripts}
use Rattle.session_run.proofs.Turns.{tasks_for, of_planner, doer, nothing_done, same_opening, all_done, tasks_more, tasks_opening, task_opening}
use Rattle.session_run.proofs.CaughtUpTwice.{tasks_from}

-- the tasks of scripts in turn, of which the first is that of this planner
abbrev in_turn_from : ℕ → List (List Task) → List (ℕ × Task)
in_turn_from first scripts = flat_map (λ s. map (λ t. (s.0, t)) s.1) (enumerate_from first scripts)

-- ---- one script more

pub script_more : (scripts : List (List Task)) (k : ℕ) → k < length scripts
    → tasks_in_turn (take (k + 1) scripts) ≡ tasks_in_turn (take k scripts) ++ by_planner (k + 1) (get_or scripts k [])
script_more scripts k l =
    let script = get_or scripts k [] in
    let f = λ (s : ℕ × List Task). map (λ t. (s.0, t)) s.1 in
    let place : 1 + length (take k scripts) ≡ k + 1 = omega (arith, length-take-le k scripts (omega (arith, l))) in
    ap tasks_in_turn (take_more scripts k [] l)
    ∙ ap (flat_map f) (enumerate_push 1 (take k scripts) script)
    ∙ flat_map-append f (enumerate_from 1 (take k scripts)) ((1 + length (take k scripts), script) ∷ [])
    ∙ ap (λ ts. tasks_in_turn (take k scripts) ++ ts)
    (append-nil (by_planner (1 + length (take k scripts)) script) ∙ ap (λ n. by_planner n script) place)

-- ---- the tasks of one planner

pub own : (planner : ℕ) (tasks : List Task) → tasks_for planner (by_planner planner tasks) ≡ tasks
own planner [] = refl
own planner (t ∷ tasks) = rw (eq-eqb planner planner refl) (ap (λ ts. t ∷ ts) (own planner tasks))

others : (planner by : ℕ) (tasks : List Task) → (by ≡ planner → ⊥) → tasks_for planner (by_planner by tasks) ≡ []
others planner by [] apart = refl
others planner by (t ∷ tasks) apart =
    elim (cases_Bool (eqb by planner)) [
      | inl same ↦ absurd (apart (eqb-true by planner same))
      | inr other ↦ rw other (others planner by tasks apart)
    ]

after_first : (s : List Task) (scripts : List (List Task)) (first planner : ℕ)
    → tasks_for planner (in_turn_from first (s ∷ scripts))
    ≡ tasks_for planner (by_planner first s) ++ tasks_for planner (in_turn_from (first + 1) scripts)
after_first s scripts first planner =
    filter_map-append (of_planner planner) (by_planner first s) (in_turn_from (first + 1) scripts)

-- a planner whose script isn't among them has none
none_for : (scripts : List (List Task)) (first planner : ℕ) → (planner < first) ⊎ (first + length scripts ≤ planner)
    → tasks_for planner (in_turn_from first scripts) ≡ []
none_for [] first planner out = refl
none_for (s ∷ scripts) first planner (inl l) =
    after_first s scripts first planner
    ∙ ap (λ ts. ts ++ tasks_for planner (in_turn_from (first + 1) scripts)) (others planner first s (λ e. absurd (omega (arith, e, l))))
    ∙ none_for scripts (first + 1) planner (inl (omega (arith, l)))
none_for (s ∷ scripts) first planner (inr l) =
    after_first s scripts first planner
    ∙ ap (λ ts. ts ++ tasks_for planner (in_turn_from (first + 1) scripts)) (others planner first s (λ e. absurd (omega (arith, e, l))))
    ∙ none_for scripts (first + 1) planner (inr (omega (arith, l)))

-- another has its script
script_for : (scripts : List (List Task)) (first k planner : ℕ) → k < length scripts → planner ≡ first + k
    → tasks_for planner (in_turn_from first scripts) ≡ get_or scripts k []
script_for [] first k planner l is = absurd (omega (arith, l))
script_for (s ∷ scripts) first zero planner l is =
    let same : planner ≡ first = omega (arith, is) in
    after_first s scripts first planner
    ∙ ap (λ ts. tasks_for planner (by_planner first s) ++ ts) (none_for scripts (first + 1) planner (inl (omega (arith, same))))
    ∙ append-nil (tasks_for planner (by_planner first s))
    ∙ ap (λ n. tasks_for n (by_planner first s)) same ∙ own first s
script_for (s ∷ scripts) first (suc k) planner l is =
    after_first s scripts first planner
    ∙ ap (λ ts. ts ++ tasks_for planner (in_turn_from (first + 1) scripts)) (others planner first s (λ e. absurd (omega (arith, e, is))))
    ∙ script_for scripts (first + 1) k planner (omega (arith, l)) (omega (arith, is))

-- ---- a planner's turn

module _ (found : List Entry) (k : ℕ) (now : List Entry) (some : 0 < length found) (nothing : NothingIsDone found)
    (h : DoesTasks found (tasks_in_turn (take k (opening found).scripts)) now) (l : k < length (opening found).scripts) where
  abbrev all : List (List Task)
  all = (opening found).scripts

  pub opening_now : opening now ≡ opening found
  opening_now = (tasks_opening (tasks_in_turn (take k all)) found now some h).1

  pub is_planner : IsPlanner now (k + 1)
  is_planner = record {
    from_one = omega arith;
    to_last = rw opening_now (omega (arith, l));
  }

  -- nothing of the next script is done yet
  pub none_done : done_by now (k + 1) ≡ []
  none_done =
      all_done (tasks_in_turn (take k all)) (k + 1) found now h
      ∙ ap (λ ts. ts ++ tasks_for (k + 1) (tasks_in_turn (take k all))) (nothing (k + 1))
      ∙ none_for (take k all) 1 (k + 1) (inr (omega (arith, length-take-le k all (omega (arith, l)))))

  pub one_script_more : (after : List Entry) → DoesTasks now (by_planner (k + 1) (script_of now (k + 1))) after
      → DoesTasks found (tasks_in_turn (take (k + 1) all)) after
  one_script_more after does =
      let place : script_of now (k + 1) ≡ get_or all k [] =
      ap (λ (o : Opening). script o.scripts (k + 1)) opening_now ∙ script_is all k in
      rw (script_more all k l)
      (tasks_more (tasks_in_turn (take k all)) (by_planner (k + 1) (get_or all k [])) found now after h
      (subst (λ s. DoesTasks now (by_planner (k + 1) s) after) place does))

pub scripts_done : (found : List Entry) (k : ℕ) (done after : List Entry) → length (opening found).scripts ≤ k
    → DoesTasks found (tasks_in_turn (take k (opening found).scripts)) done → HasCaughtUp done after → IsLegal after
    → DoesScripts found after
scripts_done found k done after all h up legal = record {
  done = done;
  tasks = subst (λ ss. DoesTasks found (tasks_in_turn ss) done) (take_all k (opening found).scripts all) h;
  caught_up = up;
  legal = legal;
}

-- ---- the session

-- the rest of the journal
record IsRest (planners : ℕ) (found : List Entry) (tasks : List (ℕ × Task)) (final : List Entry) : Type 0 where
  pub rest : List Entry
  pub is : final ≡ found ++ rest
  pub in_turn : GoesInTurn found tasks rest
  pub made : All (λ e. IsMade planners 0 e.pass e.act) rest

publications_made : (planners : ℕ) (es : List Entry) → All IsPublication es → All (λ e. IsMade planners 0 e.pass e.act) es
publications_made planners es h =
    All-weaker IsPublication (λ e. IsMade planners 0 e.pass e.act)
    (λ e p. subst (IsMade planners 0 e.pass) (sym p.is) p.pass) es h

made_by : (planners planner pass : ℕ) (t : Task) (a : Act) → 1 ≤ planner → planner ≤ planners → pass ≡ 0 → task_of planner a ≡ Some t
    → IsMade planners 0 pass a
made_by planners planner pass t (act.Opened tables at scripts) from to is h = absurd (cc)
made_by planners planner pass t (act.Entered number) from to is h = absurd (cc)
made_by planners planner pass t (act.Edited by at edit) from to is h =
    let same = doer by planner (task.Edit edit) t h in
    record { from_one = omega (arith, same, from); to_last = omega (arith, same, to); its_pass = is }
made_by planners planner pass t (act.Refused by rule edit) from to is h =
    let same = doer by planner (task.Edit edit) t h in
    record { from_one = omega (arith, same, from); to_last = omega (arith, same, to); its_pass = is }
made_by planners planner pass t (act.Asked by section reply) from to is h =
    let same = doer by planner (task.Ask section) t h in
    record { from_one = omega (arith, same, from); to_last = omega (arith, same, to); its_pass = is }
made_by planners planner pass t (act.Published section at answer) from to is h = absurd (cc)

rest_of : (planners : ℕ) (tasks : List (ℕ × Task)) (found after final : List Entry) → 0 < length found
    → length (opening found).scripts ≡ planners → DoesTasks found tasks after → HasCaughtUp after final
    → IsRest planners found tasks final
rest_of planners [] found after final some count does up =
    let all = subst (λ j. HasCaughtUp j final) does up in
    record {
      rest = all.publications;
      is = all.is;
      in_turn = all.up_to_date;
      made = publications_made planners all.publications all.made;
    }
rest_of planners ((planner, t) ∷ tasks) found after final some count does up =
    let between = does.0 in
    let d = does.1 in
    let opening_is = task_opening planner t found between some d in
    let later = rest_of planners tasks between after final opening_is.0 (ap (λ (o : Opening). length o.scripts) opening_is.1 ∙ count) does.2 up in
    let publications = d.caught_up.publications in
    let between_is : between ≡ (found ++ publications) ++ d.entry ∷ [] =
    d.is ∙ ap (λ j. j ++ d.entry ∷ []) d.caught_up.is in
    record {
      rest = publications ++ d.entry ∷ later.rest;
      is =
          later.is ∙ ap (λ j. j ++ later.rest) between_is
          ∙ append_assoc (found ++ publications) (d.entry ∷ []) later.rest
          ∙ append_assoc found publications (d.entry ∷ later.rest);
      in_turn = (
        publications,
        d.entry,
        later.rest,
        refl,
        d.caught_up.up_to_date,
        d.does,
        subst (λ j. GoesInTurn j tasks later.rest) between_is later.in_turn,
      );
      made =
          All-append (λ e. IsMade planners 0 e.pass e.act) publications (d.entry ∷ later.rest)
          (publications_made planners publications d.caught_up.made)
          (All-cons (λ e. IsMade planners 0 e.pass e.act) d.entry later.rest
          (made_by planners planner d.entry.pass t d.entry.act d.is_planner.from_one (subst (λ n. planner ≤ n) count d.is_planner.to_last) d.pass d.does)
          later.made);
    }

pub starts_untouched : (tables : Tables) (at : ℕ) (scripts : List (List Task)) (first : List Entry)
    → first ≡ opened tables at scripts ∷ [] → NothingIsDone first
unfolding done_by
starts_untouched tables at scripts first is planner = ap (λ j. done_by j planner) is

pub still_untouched : (first found : List Entry) → HasCaughtUp first found → NothingIsDone first → NothingIsDone found
still_untouched first found up nothing planner = nothing_done planner first found up ∙ nothing planner

session_of : (tables : Tables) (at : ℕ) (scripts : List (List Task)) (after final : List Entry)
    → DoesTasks (opened tables at scripts ∷ []) (tasks_in_turn scripts) after → HasCaughtUp after final → IsLegal final
    → IsSessionAlone tables at scripts final
session_of tables at scripts after final does up legal =
    let first = opened tables at scripts ∷ [] in
    let count = length scripts in
    let it = rest_of count (tasks_in_turn scripts) first after final (omega arith) refl does up in
    let each : (k : ℕ) → k < count → done_by final (k + 1) ≡ get_or scripts k [] =
    (λ k l.
    nothing_done (k + 1) after final up ∙ all_done (tasks_in_turn scripts) (k + 1) first after does
    ∙ ap (λ ts. ts ++ tasks_for (k + 1) (tasks_in_turn scripts)) (starts_untouched tables at scripts first refl (k + 1))
    ∙ script_for scripts 1 k (k + 1) l (omega arith)) in
    record {
      session = record {
        rest = it.rest;
        is = it.is;
        legal = legal;
        made = it.made;
        done =
            ext_get_or [] (map (done_by final) (range_with_len 1 count)) scripts (length-map-range_with_len (done_by final) 1 count)
            (λ i l.
            let below : i < count = omega (arith, l, length-map-range_with_len (done_by final) 1 count) in
            get_or-map-range_with_len (done_by final) 1 count i (i + 1) [] below (omega arith) ∙ each i below);
        current = subst AllAreCurrent (sym up.is) up.up_to_date.current;
      };
      in_turn = it.in_turn;
    }

is_session : (tables : Tables) (at : ℕ) (scripts : List (List Task)) (first final : List Entry)
    → first ≡ opened tables at scripts ∷ [] → DoesScripts first final → IsSessionAlone tables at scripts final
is_session tables at scripts first final is does =
    let h = subst (λ j. DoesScripts j final) is does in
    session_of tables at scripts h.done final h.tasks h.caught_up h.legal

-- the sections may be made current before the scripts
pub is_session_after : (tables : Tables) (at : ℕ) (scripts : List (List Task)) (first found final : List Entry)
    → first ≡ opened tables at scripts ∷ [] → HasCaughtUp first found → DoesScripts found final
    → IsSessionAlone tables at scripts final
is_session_after tables at scripts first found final is up does =
    let some : 0 < length first = omega (arith, ap length is) in
    let tasks = ap (λ (o : Opening). tasks_in_turn o.scripts) (same_opening first found some up) in
    let h = tasks_from (tasks_in_turn (opening first).scripts) first found does.done final some does.legal up
    (subst (λ ts. DoesTasks found ts does.done) tasks does.tasks) does.caught_up in
    is_session tables at scripts first final is
    (record { done = h.0; tasks = h.1; caught_up = h.2; legal = does.legal })
