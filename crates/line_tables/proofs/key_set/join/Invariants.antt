use Rattle.line_tables.proofs.Bits.{JoinedTo}
use Rattle.line_tables.proofs.key_set.join.Given as goal

abbrev pub invariant-loop-word : goal.invariant-loop-word
invariant-loop-word l = JoinedTo l.fn.words l.others l.word l.words
