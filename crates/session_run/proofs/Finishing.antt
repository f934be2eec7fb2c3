-- What is known of an actor stays known as the journal goes on.
use Rattle.std.proofs.Common.{◌≡◌, ℕ, ◌+◌, ◌<◌, List, ◌++◌, length, sym, ap, ◌∙◌, subst, arith, append_assoc, length-append}
use Rattle.std.specs.Prelude.{Contains}
use Rattle.plan_model.specs.declared.journal.Entry.{Entry}
use Rattle.plan_model.specs.Journal.{Opening, done_by, script}
use Rattle.plan_model.specs.Call as call
use Rattle.plan_model.proofs.Growing.{opening-more, done_by-more}
use Rattle.turn_desk.specs.Journal.{GoesOn}
use Rattle.turn_desk.proofs.Facts.{own-goes_on}
use Rattle.session_run.specs.Actors.{Role, Planner, Worker, IsBy, AreBy, IsFinished, IsAble}
use Rattle.session_run.proofs.Entered.{pass_of}

-- what goes on for a board goes on for its desk, too
pub on_desk : (numbers : List ℕ) (seen found : List Entry) → call.GoesOn numbers seen found → GoesOn pass_of numbers seen found
on_desk numbers seen found g = record { more = g.more; is = g.is; others = g.others }

pub finished_stays : (role : Role) (es more : List Entry) → 0 < length es → IsFinished role es → IsFinished role (es ++ more)
finished_stays (Planner planner) es more some h =
    let done : length (done_by (es ++ more) planner) ≡ length (done_by es planner) + length (done_by more planner) =
    ap length (done_by-more es more planner) ∙ length-append (done_by es planner) (done_by more planner) in
    omega (arith, done, h, ap (λ (o : Opening). length (script o.scripts planner)) (opening-more es more some))
finished_stays (Worker share of) es more some h = record {
  found = h.found;
  more = h.more ++ more;
  is = ap (λ j. j ++ more) h.is ∙ append_assoc h.found h.more more;
  is_journal = h.is_journal;
  none_left = h.none_left;
  current = h.current;
}

pub able_stays : (role : Role) (es more : List Entry) → 0 < length es → IsAble role es → IsAble role (es ++ more)
able_stays (Planner planner) es more some h =
    record { from_one = h.from_one; to_last = rw (opening-more es more some) h.to_last }
able_stays (Worker share of) es more some h = h

module _ (numbers : List ℕ) (seen log : List Entry) (g : GoesOn pass_of numbers seen log) where
  pub by_goes_on : (role : Role) (number : ℕ) → Contains numbers number → AreBy role number seen → AreBy role number log
  by_goes_on role number has h = own-goes_on pass_of (λ e. IsBy role e.act) number numbers seen log g has h

  pub finished_goes_on : (role : Role) → 0 < length seen → IsFinished role seen → IsFinished role log
  finished_goes_on role some h = subst (IsFinished role) (sym g.is) (finished_stays role seen g.more some h)
