-- From the passes that main has drawn to actors that have worked.
use Rattle.std.proofs.Common.{◌≡◌, ℕ, zero, suc, ◌+◌, ◌-◌, ◌<◌, ◌≤◌, List, [], ◌∷◌, ◌++◌, length, get_or, take, drop, Option, Some, None, refl, sym, ap, ◌∙◌, subst, arith, append-nil}
use Rattle.std.specs.Prelude.{All, ◌↔◌, IsSome}
use Rattle.std.proofs.lemmas.List.{drop_all, take_all}
use Rattle.std.proofs.lemmas.List.Elements.{All-cons, All-nil}
use Rattle.rail_model.specs.declared.tables.Tables.{Tables}
use Rattle.plan_model.specs.declared.scripts.Task.{Task}
use Rattle.plan_model.specs.declared.journal.Entry.{Entry}
use Rattle.plan_model.specs.Journal.{opening, issued}
use Rattle.plan_model.specs.Legal.{IsJournal}
use Rattle.plan_model.specs.Session.{opened, entered, IsSession}
use Rattle.turn_desk.specs.Journal.{GoesOn}
use Rattle.turn_desk.specs.Known.{Known, TableId, IsReady, new_passes}
use Rattle.turn_desk.proofs.Drawing.{same_desk}
use Rattle.session_run.specs.declared.actor.Actor.{Actor}
use Rattle.session_run.specs.Actors.{IsLeaving}
use Rattle.session_run.specs.Acting.{IsWorking, WorksOn, AllWorkOn, AreNewPasses, IsActorOf, AreActors}
use Rattle.session_run.proofs.Entered.{pass_of, issues_none}
use Rattle.session_run.proofs.Starting.{HasEntered, all_by_main}
use Rattle.session_run.proofs.Leaving.{none_left, closes}
use Rattle.session_run.proofs.Seating.{IsSeating, IsEmptying}

-- ---- the book that is started

module _ (tables : Tables) (at : ℕ) (scripts : List (List Task)) (book : List Entry) (is : book ≡ opened tables at scripts ∷ []) where
  pub one_issued : issued book ≡ 1
  one_issued = ap issued is ∙ issues_none (opened tables at scripts) refl

  pub started_by_main : All (λ e. e.pass ≡ 0) book
  started_by_main =
      rw is (All-cons (λ e. e.pass ≡ 0) (opened tables at scripts) [] refl (All-nil (λ e. e.pass ≡ 0)))

-- ---- passes and seats

pub entered_passes : (tables : Tables) (at : ℕ) (scripts : List (List Task)) (desk : TableId) (new : Known Entry) (planners workers : ℕ)
    (given : List (Known Entry)) → planners ≡ length scripts → IsJournal new.seen
    → HasEntered tables at scripts desk new (planners + workers) given → AreNewPasses desk planners workers given
entered_passes tables at scripts desk new planners workers given count journal h = record {
  seen = new.seen;
  opened = record {
    is_journal = journal;
    count = ap (λ j. length (opening j).scripts) h.seen ∙ sym count;
    by_main = rw h.seen (all_by_main tables at scripts (planners + workers));
  };
  are = h.passes;
}

pub none_seated : (desk : TableId) (planners workers : ℕ) (passes : List (Known Entry)) (actors : List Actor) → actors ≡ []
    → AreNewPasses desk planners workers passes → IsSeating desk planners workers 0 passes actors
none_seated desk planners workers passes actors none h = record {
  seen = h.seen;
  opened = h.opened;
  are = h.are ∙ ap (λ n. new_passes desk h.seen 1 n) (omega arith);
  count = ap length none;
  places = λ i d l. absurd (omega (arith, l, ap length none));
}

pub none_popped : {X : Type 0} (r : Option X) (xs : List X) → r ≡ None → (IsSome r ↔ (0 < length xs)) → 0 < length xs → ⊥
none_popped None xs is both some = let there = both.1 some in absurd (cc)
none_popped (Some x) xs is both some = absurd (cc)

pub all_seated : (desk : TableId) (planners workers placed : ℕ) (passes : List (Known Entry)) (actors : List Actor)
    → IsSeating desk planners workers placed passes actors → planners + workers ≤ placed → placed ≤ planners + workers
    → AreActors desk planners workers actors
all_seated desk planners workers placed passes actors h all most = record { count = omega (arith, h.count, all, most); places = h.places }

-- ---- work

pub all_working : (desk : TableId) (planners workers : ℕ) (actors : List Actor) → AreActors desk planners workers actors → All IsWorking actors
all_working desk planners workers actors h = λ i d l. (h.places i d l).working

still_there : (desk : TableId) (planners workers number : ℕ) (old new : Actor) → IsActorOf desk planners workers number old → WorksOn old new
    → IsActorOf desk planners workers number new
still_there desk planners workers number old new h work = record {
  desk_is = same_desk new.seat.pass.desk old.seat.pass.desk work.same.journal ∙ h.desk_is;
  number_is = work.same.pass ∙ h.number_is;
  role = work.role ∙ h.role;
  working = work.working;
}

pub still_actors : (desk : TableId) (planners workers : ℕ) (old new : List Actor) → AreActors desk planners workers old → AllWorkOn old new
    → AreActors desk planners workers new
still_actors desk planners workers old new h work = record {
  count = work.count ∙ h.count;
  places = λ i d l.
      let before : i < length old = omega (arith, l, work.count) in
      still_there desk planners workers (planners + workers - i) (get_or old i d) (get_or new i d) (h.places i d before) (work.each i d before);
}

-- the slice that a vector lent is written back
pub written_back : {X : Type 0} (xs ys : List X) (n : ℕ) → n ≡ length xs → length ys ≡ length xs → take n (ys ++ drop (length ys) xs) ≡ ys
written_back xs ys n is same =
    ap (λ zs. take n (ys ++ zs)) (drop_all (length ys) xs (omega (arith, same)))
    ∙ ap (take n) (append-nil ys) ∙ take_all n ys (omega (arith, is, same))

-- ---- leaving

pub none_gone : (desk : TableId) (planners workers : ℕ) (main : Known Entry) (actors : List Actor) → IsReady desk main → main.numbers ≡ 0 ∷ []
    → 0 < length main.seen → AreActors desk planners workers actors → IsEmptying desk planners workers main.seen main actors 0
none_gone desk planners workers main actors ready numbers some h = record {
  ready = ready;
  left = none_left planners workers main.seen main some numbers refl;
  count = omega (arith, h.count);
  places = h.places;
}

pub one_stands : (desk : TableId) (planners workers gone : ℕ) (first : List Entry) (main : Known Entry) (actors : List Actor)
    → IsEmptying desk planners workers first main actors gone → gone < planners + workers → 0 < length actors
one_stands desk planners workers gone first main actors h l = omega (arith, h.count, l)

pub all_gone : (desk : TableId) (planners workers gone : ℕ) (first : List Entry) (main : Known Entry) (actors : List Actor)
    → IsEmptying desk planners workers first main actors gone → planners + workers ≤ gone
    → IsLeaving planners workers first main (planners + workers)
all_gone desk planners workers gone first main actors h all =
    subst (IsLeaving planners workers first main) (omega (arith, h.count, all)) h.left

-- ---- the close

pub session_closes : (tables : Tables) (at : ℕ) (scripts : List (List Task)) (planners workers : ℕ) (desk : TableId) (new main : Known Entry)
    (given : List (Known Entry)) (log : List Entry) → 1 ≤ workers → planners ≡ length scripts
    → HasEntered tables at scripts desk new (planners + workers) given
    → IsLeaving planners workers new.seen main (planners + workers)
    → GoesOn pass_of main.numbers main.seen log → IsJournal log → IsSession tables at scripts workers log
session_closes tables at scripts planners zero desk new main given log some is h left g journal = absurd (omega (arith, some))
session_closes tables at scripts planners (suc workers) desk new main given log some is h left g journal =
    let first = opened tables at scripts ∷ entered (length scripts + suc workers) in
    let seen : new.seen ≡ first = h.seen ∙ ap (λ n. opened tables at scripts ∷ entered (n + suc workers)) is in
    let count : issued first ≡ length scripts + suc workers + 1 = ap issued (sym seen) ∙ h.issued_now ∙ ap (λ n. n + suc workers + 1) is in
    closes tables at scripts workers main log count
    (subst (λ n. IsLeaving n (suc workers) first main (n + suc workers)) is
    (subst (λ j. IsLeaving planners (suc workers) j main (planners + suc workers)) seen left))
    g journal
