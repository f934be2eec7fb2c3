use Rattle.std.proofs.Common.{subst}
use Rattle.plan_model.specs.Board.{Gives}
use Rattle.plan_model.specs.Outcome.{AsksTo}
use Rattle.acceptance_seats.proofs.Holding.{held_asked}
use Rattle.acceptance_seats.proofs.Starting.{zero_issued}
use Rattle.acceptance_seats.proofs.books.ask.Goals as goal

pub ask-requires : goal.ask-requires
ask-requires c = zero_issued c.args.book.now

pub returns : goal.returns
returns c =
    held_asked c.args.book.now c.args.held.now.items c.journal-found.ensures.is_journal c.requires c.in-Ok.section c.in_ok-answer.answer
    c.ask.new.self
    (subst (λ r. Gives (AsksTo 0 0 c.in-Ok.section) r c.args.book.now c.ask.new.self) c.in_ok-answer.was c.ask.ensures)
