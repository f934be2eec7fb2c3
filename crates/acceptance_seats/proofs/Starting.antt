-- A desk over a book that was just opened.
use Rattle.std.proofs.Common.{◌≡◌, ◌<◌, List, [], All, sym, ap, subst, refl, arith}
use Rattle.std.proofs.lemmas.List.Elements.{All-nil, All-cons}
use Rattle.plan_model.specs.declared.journal.Entry.{Entry}
use Rattle.plan_model.specs.Journal.{issued}
use Rattle.acceptance_seats.specs.Opened.{IsJustOpened}

-- pass 0 is issued
pub zero_issued : (journal : List Entry) → 0 < issued journal
unfolding issued
zero_issued journal = omega arith

-- pass 0 alone is issued
pub one_issued : (journal : List Entry) → IsJustOpened journal → issued journal ≡ 1
unfolding issued
one_issued journal h = ap issued h.is

-- each entry is of pass 0
pub all_by_zero : (journal : List Entry) → IsJustOpened journal → All (λ (e : Entry). e.pass ≡ 0) journal
all_by_zero journal h = subst (All (λ (e : Entry). e.pass ≡ 0)) (sym h.is)
    (All-cons (λ (e : Entry). e.pass ≡ 0) _ [] refl (All-nil (λ (e : Entry). e.pass ≡ 0)))
