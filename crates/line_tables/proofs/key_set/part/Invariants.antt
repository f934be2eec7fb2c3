use Rattle.line_tables.proofs.Bits.{PartedTo}
use Rattle.line_tables.proofs.key_set.part.Given as goal

abbrev pub invariant-loop-word : goal.invariant-loop-word
invariant-loop-word l = PartedTo l.fn.words l.others l.word l.words
