use Rattle.acceptance_seats.specs.Held.{AreHeld}
use Rattle.acceptance_seats.proofs.books.write_calls.Given as goal

-- each answer that is held may be published
abbrev pub invariant-loop-call : goal.invariant-loop-call
invariant-loop-call l = AreHeld l.book l.held.items
