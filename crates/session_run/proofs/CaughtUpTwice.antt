-- Sections may be made current before the first task, too: where they are current, none is published again.
use Rattle.std.proofs.Common.{◌≡◌, ℕ, ◌<◌, List, [], ◌∷◌, ◌++◌, length, refl, sym, ap, ◌∙◌, subst, arith, append_assoc, append-nil, length-append}
use Rattle.std.proofs.lemmas.List.Elements.{All-nil, All-weaker}
use Rattle.plan_model.specs.declared.scripts.Task.{Task}
use Rattle.plan_model.specs.declared.journal.Entry.{Entry}
use Rattle.plan_model.specs.Legal.{IsLegal}
use Rattle.plan_model.specs.Session.{AllAreCurrent, BringsUpToDate}
use Rattle.plan_model.proofs.Alone.{up_to_date_one}
use Rattle.plan_model.proofs.Legality.{front_is_legal}
use Rattle.session_run.specs.Turns.{IsPublication, HasCaughtUp, DoesTasks}
use Rattle.session_run.proofs.Turns.{same_opening}

-- where all sections are current, none is published
none_published : (found after : List Entry) → 0 < length found → IsLegal after → AllAreCurrent found → (up : HasCaughtUp found after)
    → up.publications ≡ []
none_published found after some legal all up =
    let by_main = All-weaker IsPublication (λ (e : Entry). e.pass ≡ 0) (λ e p. p.pass) up.publications up.made in
    let nothing : BringsUpToDate found [] = record {
      names = [];
      count = refl;
      each = All-nil _;
      rise = λ i j d l m. absurd (omega (arith, m));
      current = subst AllAreCurrent (sym (append-nil found)) all;
    } in
    up_to_date_one found up.publications [] some (subst IsLegal up.is legal)
    (subst IsLegal (sym (append-nil found)) (front_is_legal found up.publications some (subst IsLegal up.is legal))) by_main (All-nil _)
    up.up_to_date nothing

-- so making them current twice is making them current once
caught_up_twice : (first found after : List Entry) → 0 < length first → IsLegal after → HasCaughtUp first found → HasCaughtUp found after
    → HasCaughtUp first after
caught_up_twice first found after some legal up again =
    let some_found : 0 < length found = omega (arith, ap length up.is, length-append first up.publications, some) in
    let all = subst AllAreCurrent (sym up.is) up.up_to_date.current in
    let same : after ≡ found =
    again.is ∙ ap (λ ps. found ++ ps) (none_published found after some_found legal all again) ∙ append-nil found in
    subst (HasCaughtUp first) (sym same) up

-- tasks, and then publications, make a journal longer
tasks_grow : (tasks : List (ℕ × Task)) (found done after : List Entry) → DoesTasks found tasks done → HasCaughtUp done after
    → (more : List Entry) × (after ≡ found ++ more)
tasks_grow [] found done after does up = (up.publications, up.is ∙ ap (λ j. j ++ up.publications) does)
tasks_grow ((planner, t) ∷ tasks) found done after (between, d, rest) up =
    let on = tasks_grow tasks between done after rest up in (
      d.caught_up.publications ++ d.entry ∷ on.0,
      on.1 ∙ ap (λ j. j ++ on.0) d.is ∙ append_assoc d.ready (d.entry ∷ []) on.0
          ∙ ap (λ j. j ++ d.entry ∷ on.0) d.caught_up.is ∙ append_assoc found d.caught_up.publications (d.entry ∷ on.0),
    )

-- the tasks may start where the sections were current before
pub tasks_from : (tasks : List (ℕ × Task)) (first found done after : List Entry) → 0 < length first → IsLegal after
    → HasCaughtUp first found → DoesTasks found tasks done → HasCaughtUp done after
    → (between : List Entry) × DoesTasks first tasks between × HasCaughtUp between after
tasks_from [] first found done after some legal up does last =
    (first, refl, caught_up_twice first found after some legal up (subst (λ j. HasCaughtUp j after) does last))
tasks_from ((planner, t) ∷ tasks) first found done after some legal up (between, d, rest) last =
    let some_found : 0 < length found = omega (arith, ap length up.is, length-append first up.publications, some) in
    let some_ready : 0 < length d.ready = omega (arith, ap length d.caught_up.is, length-append found d.caught_up.publications, some_found) in
    let on = tasks_grow tasks between done after rest last in
    let legal_ready : IsLegal d.ready =
    front_is_legal d.ready (d.entry ∷ on.0) some_ready
    (subst IsLegal (on.1 ∙ ap (λ j. j ++ on.0) d.is ∙ append_assoc d.ready (d.entry ∷ []) on.0) legal) in (
      done,
      (
        between,
        record {
          ready = d.ready;
          caught_up = caught_up_twice first found d.ready some legal_ready up d.caught_up;
          is_planner = record {
            from_one = d.is_planner.from_one;
            to_last = rw (sym (same_opening first found some up)) d.is_planner.to_last;
          };
          entry = d.entry;
          is = d.is;
          pass = d.pass;
          does = d.does;
        },
        rest,
      ),
      last,
    )
