use Rattle.std.proofs.Common.{ℕ, ◌<◌}
use Rattle.plan_model.specs.Legal.{IsCurrent}
use Rattle.plan_model.specs.Outcome.{IsOfShare, section_name}
use Rattle.plan_book.proofs.book.Book.next_open.Given as goal

-- the first sections of the share are current
abbrev pub invariant-loop-number : goal.invariant-loop-number
invariant-loop-number l =
    (n : ℕ) → n < l.number → IsOfShare l.share l.of l.self n → IsCurrent l.self (section_name l.self n)
