-- The book after a pass is issued.
use Rattle.std.proofs.Common.{◌≡◌, ℕ, ◌+◌, ◌<◌, List, [], ◌∷◌, ◌++◌, refl, sym, ap, ◌∙◌, arith}
use Rattle.std.specs.Prelude.{true}
use Rattle.rail_model.specs.declared.tables.Tables.{Tables}
use Rattle.plan_model.specs.declared.journal.Act.TheVariants as act
use Rattle.plan_model.specs.declared.journal.Entry.{Entry}
use Rattle.plan_model.specs.Journal.{Opening, issues, issued}
use Rattle.plan_model.proofs.Growing.{opening-more, issued-more, others_keep_tables}
use Rattle.plan_model.proofs.Legality.{legal_has_one}
use Rattle.plan_model.proofs.Working.{calls_leave_journals}
use Rattle.plan_book.specs.declared.shelf.Shelf.{Shelf}
use Rattle.plan_book.specs.Kept.{IsBook}
use Rattle.plan_book.proofs.Others.{none, shelves-more}
use Rattle.plan_book.proofs.Adding.{done-outside}

one_more : (e : Entry) → issues e.act ≡ true → issued (e ∷ []) ≡ 2
unfolding issued
one_more e is = rw is refl

pub book-entered : (journal : List Entry) (tables : Tables) (first at passes : ℕ) (shelves : List Shelf) (done : List ℕ) (who : ℕ)
    → IsBook journal tables first at passes shelves done → who < issued journal
    → IsBook (journal ++ record { pass = who; act = act.Entered passes } ∷ []) tables first at (passes + 1) shelves done
book-entered journal tables first at passes shelves done who held is_issued =
    let e : Entry = record { pass = who; act = act.Entered passes } in
    let some = legal_has_one journal held.is_journal.legal in
    let keeps = others_keep_tables journal (e ∷ []) some (none journal e some refl) in
    record {
      is_journal = (calls_leave_journals journal _ held.is_journal).enter who passes (record { next = record { pass = is_issued; follows = held.passes_are }; is = refl });
      within = rw (opening-more journal (e ∷ []) some) held.within;
      tables_are = held.tables_are ∙ sym keeps.tables;
      first_is = held.first_is ∙ ap (λ (o : Opening). o.at) (sym (opening-more journal (e ∷ []) some));
      at_is = held.at_is ∙ sym keeps.number;
      passes_are = omega (arith, held.passes_are, issued-more journal (e ∷ []), one_more e refl);
      shelves_are = shelves-more journal e some refl first shelves (λ name. refl) held.shelves_are;
      done_are = done-outside journal e done some (λ planner from. refl) held.done_are;
    }
