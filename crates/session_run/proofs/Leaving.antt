-- Actors leave one after the other, and what is known of each stays known; in the end the closed journal is that of a
-- session.
use Rattle.std.proofs.Common.{◌≡◌, ℕ, suc, ◌+◌, ◌<◌, ◌≤◌, List, [], ◌∷◌, ◌++◌, length, refl, sym, ap, subst, inl, inr, arith, append-nil, length-append}
use Rattle.std.specs.Prelude.{Contains}
use Rattle.std.proofs.lemmas.Bool.{cases_lt}
use Rattle.std.proofs.lemmas.List.Elements.{Contains-append_left, Contains-append_right, Contains-push_cases, All-nil, All-weaker}
use Rattle.rail_model.specs.declared.tables.Tables.{Tables}
use Rattle.plan_model.specs.declared.scripts.Task.{Task}
use Rattle.plan_model.specs.declared.journal.Entry.{Entry}
use Rattle.plan_model.specs.Journal.{issued}
use Rattle.plan_model.specs.Legal.{IsJournal}
use Rattle.plan_model.specs.Session.{opened, entered, IsSession}
use Rattle.turn_desk.specs.Journal.{IsOthers, GoesOn}
use Rattle.turn_desk.specs.Known.{Known, AgreeOn, with_other}
use Rattle.turn_desk.specs.Views.{longer}
use Rattle.turn_desk.proofs.Growing.{agreed, goes_on-goes_on}
use Rattle.session_run.specs.Actors.{role_at, HasLeft, IsLeaving}
use Rattle.session_run.proofs.Entered.{pass_of}
use Rattle.session_run.proofs.Finishing.{by_goes_on, finished_goes_on}
use Rattle.session_run.proofs.Closing.{is_session}

only_zero : (n : ℕ) → Contains (0 ∷ []) n → 0 ≡ n
only_zero n has = elim (Contains-push_cases [] 0 n has) [ inl (k, l, is) ↦ absurd (omega (arith, l)) | inr same ↦ same ]

module _ (planners workers : ℕ) (first : List Entry) where
  pub none_left : (main : Known Entry) → 0 < length first → main.numbers ≡ 0 ∷ [] → main.seen ≡ first → IsLeaving planners workers first main 0
  none_left main some numbers seen = record {
    some = some;
    zero = rw numbers (0, omega arith, refl);
    goes_on = record { more = []; is = rw seen (sym (append-nil first)); others = All-nil (IsOthers pass_of (0 ∷ [])) };
    left = λ number from to. absurd (omega (arith, from, to));
  }

  -- what goes on by all numbers goes on by 0
  only_main : (numbers : List ℕ) (seen log : List Entry) → Contains numbers 0 → GoesOn pass_of numbers seen log → GoesOn pass_of (0 ∷ []) seen log
  only_main numbers seen log zero g = record {
    more = g.more;
    is = g.is;
    others = All-weaker (IsOthers pass_of numbers) (IsOthers pass_of (0 ∷ []))
        (λ e out has. out (subst (Contains numbers) (only_zero e.pass has) zero)) g.more g.others;
  }

  some_seen : (main : Known Entry) (gone : ℕ) → IsLeaving planners workers first main gone → 0 < length main.seen
  some_seen main gone h = omega (arith, h.some, ap length h.goes_on.is, length-append first h.goes_on.more)

  module _ (main other : Known Entry) (gone word : ℕ) (h : IsLeaving planners workers first main gone) (agree : AgreeOn pass_of main other) where
    both : GoesOn pass_of main.numbers main.seen (longer main.seen other.seen) × GoesOn pass_of other.numbers other.seen (longer main.seen other.seen)
    both = agreed pass_of main.numbers other.numbers main.seen other.seen agree

    still_left : (number : ℕ) → 1 ≤ number → number ≤ gone
        → HasLeft (main.numbers ++ other.numbers) (longer main.seen other.seen) (role_at planners workers number) number
    still_left number from to =
        let old = h.left number from to in
        let role = role_at planners workers number in
        record {
          there = Contains-append_left main.numbers other.numbers number old.there;
          by = by_goes_on main.numbers main.seen (longer main.seen other.seen) both.0 role number old.there old.by;
          finished = finished_goes_on main.numbers main.seen (longer main.seen other.seen) both.0 role (some_seen main gone h) old.finished;
        }

    pub leaves : (number : ℕ) → number ≡ gone + 1 → HasLeft other.numbers other.seen (role_at planners workers number) number
        → 0 < length other.seen → IsLeaving planners workers first (with_other main other word) (gone + 1)
    leaves number is new some_other = record {
      some = h.some;
      zero = Contains-append_left main.numbers other.numbers 0 h.zero;
      goes_on = goes_on-goes_on pass_of (0 ∷ []) first main.seen (longer main.seen other.seen) h.goes_on
          (only_main main.numbers main.seen (longer main.seen other.seen) h.zero both.0);
      left = λ n from to.
          elim (cases_lt gone n) [
            | inl l ↦
                let same : number ≡ n = omega (arith, l, to, is) in
                let role = role_at planners workers number in
                subst (λ m. HasLeft (main.numbers ++ other.numbers) (longer main.seen other.seen) (role_at planners workers m) m) same
                (record {
                  there = Contains-append_right main.numbers other.numbers number new.there;
                  by = by_goes_on other.numbers other.seen (longer main.seen other.seen) both.1 role number new.there new.by;
                  finished = finished_goes_on other.numbers other.seen (longer main.seen other.seen) both.1 role some_other new.finished;
                })
            | inr l ↦ still_left n from l
          ];
    }

-- once all have left, the closed journal is that of a session
pub closes : (tables : Tables) (at : ℕ) (scripts : List (List Task)) (workers : ℕ) (main : Known Entry) (log : List Entry)
    → let first = opened tables at scripts ∷ entered (length scripts + suc workers) in
    issued first ≡ length scripts + suc workers + 1
    → IsLeaving (length scripts) (suc workers) first main (length scripts + suc workers)
    → GoesOn pass_of main.numbers main.seen log → IsJournal log → IsSession tables at scripts (suc workers) log
closes tables at scripts workers main log count h g journal =
    let planners = length scripts in
    let first = opened tables at scripts ∷ entered (planners + suc workers) in
    let some = some_seen planners (suc workers) first main (planners + suc workers) h in
    let all = goes_on-goes_on pass_of (0 ∷ []) first main.seen log h.goes_on
    (only_main planners (suc workers) first main.numbers main.seen log h.zero g) in
    is_session tables at scripts workers log all.more
    (record {
      is = all.is;
      is_journal = journal;
      issued_first = count;
      others =
          All-weaker (IsOthers pass_of (0 ∷ [])) (λ e. e.pass ≡ 0 → ⊥)
          (λ e out zero. out (subst (Contains (0 ∷ [])) (sym zero) (0, omega arith, refl))) all.more all.others;
      by = λ number from to.
          let left = h.left number from to in
          by_goes_on main.numbers main.seen log g (role_at planners (suc workers) number) number left.there left.by;
      finished = λ number from to.
          finished_goes_on main.numbers main.seen log g (role_at planners (suc workers) number) some (h.left number from to).finished;
    })
