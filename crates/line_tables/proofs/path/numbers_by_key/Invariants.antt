use Rattle.line_tables.specs.Table.{AreNumbered}
use Rattle.line_tables.proofs.path.numbers_by_key.Given as goal

abbrev pub invariant-loop-number : goal.invariant-loop-number
invariant-loop-number l = AreNumbered l.number l.blocks l.numbers.items
