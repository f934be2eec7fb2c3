use Rattle.acceptance_seats.specs.Kept.{IsKept}
use Rattle.acceptance_seats.proofs.drawn_edits.held_against.Given as goal

-- what is kept was read of the book
abbrev pub invariant-loop-edit : goal.invariant-loop-edit
invariant-loop-edit l = IsKept l.book l.keep
