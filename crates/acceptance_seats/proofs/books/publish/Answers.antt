use Rattle.std.proofs.Common.{sym, subst}
use Rattle.plan_model.specs.Board.{Gives}
use Rattle.plan_model.specs.Outcome.{IsDone, PublishesTo}
use Rattle.acceptance_seats.specs.Held.{AreHeld}
use Rattle.acceptance_seats.proofs.Holding.{held_rest, held_published}
use Rattle.acceptance_seats.proofs.Starting.{zero_issued}
use Rattle.acceptance_seats.proofs.books.publish.Goals as goal

pub publish-requires-clause-issued : goal.publish-requires-clause-issued
publish-requires-clause-issued c = zero_issued c.args.book.now

pub returns : goal.returns
returns c =
    let book = c.args.book.now in
    let done = c.remove-done.result in
    let rest = subst (AreHeld book) (sym c.remove-done.ensures.items) (held_rest (IsDone book) c.args.held.now.items c.requires) in
    held_published book c.remove-done.new.self.items c.journal-found.ensures.is_journal rest done c.in_ok-answer.answer c.publish.new.self
    (subst (λ r. Gives (PublishesTo 0 done) r book c.publish.new.self) c.in_ok-answer.was c.publish.ensures)
