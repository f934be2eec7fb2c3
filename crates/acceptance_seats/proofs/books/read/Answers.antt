use Rattle.std.proofs.Common.{List, sym, subst}
use Rattle.std.proofs.lemmas.List.Elements.{All-push}
use Rattle.plan_model.specs.declared.answer.Done.{Done}
use Rattle.plan_model.specs.Outcome.{IsDone}
use Rattle.acceptance_seats.specs.Held.{AreHeld}
use Rattle.acceptance_seats.proofs.books.read.Goals as goal

pub returns-in_ok-push-in-Reading : goal.returns-in_ok-push-in-Reading
returns-in_ok-push-in-Reading c =
    let book = c.args.book.now in
    let done = c.in_ok-answered-in-Reading in
    subst (AreHeld book) (sym {A = List Done} c.in_ok-push-in-Reading.ensures.items)
    (All-push (IsDone book) c.args.held.now.items done.field-0 c.requires done.ensures)
