use Rattle.plan_model.specs.Journal.{tables_of}
use Rattle.capacity_cmd.specs.Counted.{AreCounted}
use Rattle.capacity_cmd.proofs.made.counts_of_book.Given as goal

-- those of the sections so far
abbrev pub invariant-loop-number : goal.invariant-loop-number
invariant-loop-number l = AreCounted (tables_of l.book) l.number l.counts
