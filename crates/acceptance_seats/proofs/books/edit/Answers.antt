use Rattle.std.proofs.Common.{subst}
use Rattle.plan_model.specs.Board.{Gives}
use Rattle.plan_model.specs.Outcome.{EditsTo}
use Rattle.acceptance_seats.proofs.Holding.{held_edited}
use Rattle.acceptance_seats.proofs.Starting.{zero_issued}
use Rattle.acceptance_seats.proofs.books.edit.Goals as goal

pub edit-requires : goal.edit-requires
edit-requires c = zero_issued c.args.book.now

pub returns : goal.returns
returns c =
    held_edited c.args.book.now c.args.held.now.items c.journal-found.ensures.is_journal c.requires c.in-Some.edit c.in_ok-answer.answer
    c.edit.new.self
    (subst (λ r. Gives (EditsTo 0 0 c.in-Some.edit) r c.args.book.now c.edit.new.self) c.in_ok-answer.was c.edit.ensures)
