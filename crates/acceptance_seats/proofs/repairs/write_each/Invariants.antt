use Rattle.acceptance_seats.specs.Kept.{IsKept}
use Rattle.acceptance_seats.proofs.repairs.write_each.Given as goal

-- what is kept was read of the book
abbrev pub invariant-loop-step : goal.invariant-loop-step
invariant-loop-step l = IsKept l.book l.keep
