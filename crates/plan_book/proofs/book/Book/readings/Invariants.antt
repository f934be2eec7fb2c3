use Rattle.plan_book.specs.Reading.{AreOpenBelow}
use Rattle.plan_book.proofs.book.Book.readings.Given as goal

-- the first sections are read where they are not current
abbrev pub invariant-loop-number : goal.invariant-loop-number
invariant-loop-number l = AreOpenBelow l.self l.number l.readings.items
