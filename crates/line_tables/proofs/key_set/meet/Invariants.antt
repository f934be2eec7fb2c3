use Rattle.line_tables.proofs.Bits.{ApartTo}
use Rattle.line_tables.proofs.key_set.meet.Given as goal

abbrev pub invariant-loop-word : goal.invariant-loop-word
invariant-loop-word l = ApartTo l.one l.other l.word
