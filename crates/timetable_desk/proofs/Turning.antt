-- A call of a seat: the turn is taken, the book is called once, and the turn is given back.
use Rattle.std.proofs.Common.{◌≡◌, ℕ, ◌<◌, List, ◌++◌, Ok, refl, sym, ◌∙◌, ap, arith, subst}
use Rattle.std.specs.Prelude.{All, Contains}
use Rattle.turn_desk.specs.Known.{Known, IsSamePass, without_turn}
use Rattle.turn_desk.specs.Journal as desk
use Rattle.turn_desk.specs.Laws.{numbers_of}
use Rattle.plan_model.specs.declared.answer.Done.{Done}
use Rattle.plan_model.specs.declared.journal.Entry.{Entry}
use Rattle.plan_model.specs.declared.outcome.Next.{Next}
use Rattle.plan_model.specs.declared.outcome.Next.TheVariants as next
use Rattle.plan_model.specs.Journal.{issued}
use Rattle.plan_model.specs.Legal.{IsJournal}
use Rattle.plan_model.specs.Call.{AddsOwn}
use Rattle.plan_model.specs.Outcome.{IsDone}
use Rattle.plan_model.specs.Board.{IsAccess, IsCall, CountsNext}
use Rattle.plan_model.proofs.Growing.{opening-more, last_number-more, cut_at-more, longer_issues_no_fewer}
use Rattle.plan_model.proofs.Legality.{legal_has_one}
use Rattle.plan_book.specs.Alone.{counted}
use Rattle.timetable_desk.specs.Seat.{Seated, access_of}

abbrev pub pass_of : Entry → ℕ
pass_of e = e.pass

-- ---- what the call finds

-- a pass that is issued by what was seen is issued by what is found
pub issued_then : {who : ℕ} {numbers : List ℕ} {seen start found : List Entry} → desk.GoesOn pass_of numbers seen found
    → start ≡ found → who < issued seen → who < issued start
issued_then {seen = seen} g starts is = omega (arith, is, longer_issues_no_fewer seen g.more, ap issued g.is, ap issued starts)

-- what was the answer of a section at an edit is so
pub done_then : (done : Done) (numbers : List ℕ) (seen found : List Entry) → desk.GoesOn pass_of numbers seen found
    → IsJournal seen → IsDone seen done → IsDone found done
done_then done numbers seen found g h is =
    let some = legal_has_one seen h.legal in
    subst (λ j. IsDone j done) (sym g.is) record {
      from_opening = rw (opening-more seen g.more some) is.from_opening;
      to_last = omega (arith, is.to_last, last_number-more seen g.more some);
      cut = is.cut;
      there = cut_at-more seen g.more done.section done.at some is.to_last ∙ is.there;
      is_answer = is.is_answer;
    }

-- ---- what the call leaves

-- what the book adds may be given back with the turn
pub own_then : {who : ℕ} {k taken : Known Entry} {start found after : List Entry} → who ≡ k.number → IsSamePass k taken
    → taken.seen ≡ found → start ≡ found → AddsOwn who start after
    → desk.AddsOwn pass_of taken.number taken.seen after
own_then is same seen starts a = record {
  own = a.own;
  is = a.is ∙ ap (λ j. j ++ a.own) (starts ∙ sym seen);
  made = subst (λ n. All (λ e. e.pass ≡ n) a.own) (is ∙ sym same.number) a.made;
}

-- a pass has an access to what it has seen
has_access : (s : Seated) (who : ℕ) → who ≡ s.pass.number → Contains s.pass.numbers who → who < issued s.pass.seen
    → IsJournal s.pass.seen → IsAccess (access_of s)
has_access s who is own below h = record {
  seen = h;
  issued = subst (λ n. n < issued s.pass.seen) is below;
  own = subst (Contains s.pass.numbers) is own;
}

-- the one call of the book is the call of the seat
pub seat_call : (Does : ℕ → List Entry → List Entry → Type 0) (s later seat : Seated) → s ≡ seat → {taken : Known Entry} {who left : ℕ}
    {start found after : List Entry}
    → who ≡ s.pass.number → Contains s.pass.numbers who → who < issued s.pass.seen → IsJournal s.pass.seen
    → IsSamePass s.pass taken → desk.GoesOn pass_of s.pass.numbers s.pass.seen found → IsJournal found
    → start ≡ found → Does who start after → later.pass ≡ without_turn taken after
    → left ≡ later.pass.number → Contains later.pass.numbers left → left < issued later.pass.seen
    → IsJournal later.pass.seen
    → IsCall (Does seat.pass.number) (access_of seat) (access_of later)
seat_call Does s later seat view {who = who} {left = left} {start = start} {found = found} {after = after} is own below h same g legal
    starts does given is_left own_left below_left h_left =
    subst (λ x. IsCall (Does x.pass.number) (access_of x) (access_of later)) view record {
      before = has_access s who is own below h;
      found = found;
      goes_on = record { more = g.more; is = g.is; others = g.others };
      is_journal = legal;
      does = subst (λ j. Does s.pass.number found j) (sym (ap (λ k. k.seen) given))
          (subst (λ j. Does s.pass.number j after) starts (subst (λ n. Does n start after) is does));
      after = has_access later left is_left own_left below_left h_left;
      same_journal = ap numbers_of (ap (λ k. k.desk) given ∙ same.desk);
      same_pass = ap (λ k. k.number) given ∙ same.number;
      same_numbers = ap (λ k. k.numbers) given ∙ same.numbers;
    }

-- ---- counts

-- a call that may give a reading counts it
pub counts_next : {R : Type 0} (n : Next R) (s : Seated) (later : Known Entry) (readings : ℕ)
    → readings ≡ counted s.readings n
    → CountsNext (Ok n) (access_of s) (access_of record { pass = later; readings = readings; handed = s.handed })
counts_next (next.Reading r) s later readings is = record { readings = is; handed = refl }
counts_next (next.Idle left) s later readings is = record { readings = is; handed = refl }
