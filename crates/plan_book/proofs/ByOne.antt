-- Calls of a pass that is alone with a book.
use Rattle.std.proofs.Common.{◌≡◌, ℕ, ◌<◌, List, [], Ok, refl, sym, ap, arith}
use Rattle.std.specs.List.{range_with_len}
use Rattle.std.proofs.lemmas.List.{append-nil}
use Rattle.std.proofs.lemmas.List.Elements.{All-nil}
use Rattle.plan_model.specs.declared.journal.Entry.{Entry}
use Rattle.plan_model.specs.Journal.{issued}
use Rattle.plan_model.specs.Legal.{IsJournal}
use Rattle.plan_model.specs.Call.{IsOthers}
use Rattle.plan_model.specs.Board.{IsAccess, IsCall}
use Rattle.plan_model.specs.declared.outcome.Next.{Next}
use Rattle.plan_model.specs.declared.outcome.Next.TheVariants as next
use Rattle.plan_model.specs.Board.{CountsNext}
use Rattle.plan_book.specs.Alone.{alone, counted}
use Rattle.plan_book.proofs.Issuing.{own_number}

-- a pass that is issued stays so
pub still_issued : (who : ℕ) (old new : List Entry) → issued new ≡ issued old → who < issued old → who < issued new
still_issued who old new none is = omega (arith, is, none)

is_access : (who readings handed : ℕ) (seen : List Entry) → IsJournal seen → who < issued seen → IsAccess (alone seen who readings handed)
is_access who readings handed seen h is = record { seen = h; issued = is; own = own_number (issued seen) who is }

-- a call finds what was seen, and what it leaves is seen
pub alone_call : (Does : List Entry → List Entry → Type 0) (who readings handed later_readings later_handed : ℕ) (old new : List Entry)
    → who < issued old → IsJournal old → IsJournal new → issued new ≡ issued old → Does old new
    → IsCall Does (alone old who readings handed) (alone new who later_readings later_handed)
alone_call Does who readings handed later_readings later_handed old new is h later none does = record {
  before = is_access who readings handed old h is;
  found = old;
  goes_on = record { more = []; is = sym (append-nil old); others = All-nil (IsOthers (range_with_len 0 (issued old))) };
  is_journal = h;
  does = does;
  after = is_access who later_readings later_handed new later (still_issued who old new none is);
  same_journal = refl;
  same_pass = refl;
  same_numbers = ap (range_with_len 0) none;
}

-- a call that may give a reading counts it
pub counts_next : {R : Type 0} (n : Next R) (who readings handed : ℕ) (old new : List Entry)
    → CountsNext (Ok n) (alone old who readings handed) (alone new who (counted readings n) handed)
counts_next (next.Reading r) who readings handed old new = record { readings = refl; handed = refl }
counts_next (next.Idle left) who readings handed old new = record { readings = refl; handed = refl }
