use Rattle.std.proofs.Common.{◌∙◌, sym, subst, ap}
use Rattle.std.specs.Option.{option_copied}
use Rattle.std.specs.Prelude.{IfOk}
use Rattle.plan_book.specs.Shelves.{AreShelves}
use Rattle.plan_book.specs.Kept.{IsAnswered}
use Rattle.plan_book.proofs.Found.{found_name}
use Rattle.plan_book.proofs.Adding.{shelf_found_named}
use Rattle.plan_book.proofs.book.Book.answer_of.Goals as goal

pub asked_of-requires-clause-shelf : goal.asked_of-requires-clause-shelf
asked_of-requires-clause-shelf c =
    let found = sym c.shelf_of.ensures ∙ ap option_copied c.in-Some.is in
    rw (c.slice-in-Some.ensures)
    (shelf_found_named c.self.inside.journal c.self.inside.first c.slice.result.now c.args.section.now
    (subst (AreShelves c.self.inside.journal c.self.inside.first) (sym c.slice.ensures) c.self.invariant.shelves_are) c.in-Some.shelf.now found)

pub returns-in-Some-clause-answered : goal.returns-in-Some-clause-answered
returns-in-Some-clause-answered c =
    let found = sym c.shelf_of.ensures ∙ ap option_copied c.in-Some.is in
    let same = found_name c.slice.result.now c.args.section.now c.in-Some.shelf.now found in
    rw (← c.self.view_is, ← c.slice-in-Some.ensures) (subst (λ n. IfOk c.asked_of.result (IsAnswered c.slice-in-Some.result.now n)) same c.asked_of.ensures)
