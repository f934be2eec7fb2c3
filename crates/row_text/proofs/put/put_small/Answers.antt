use Rattle.std.proofs.lemmas.Fmt.{decimal_digit}
use Rattle.itoa.proofs.Decimal.{decimal_two}
use Rattle.row_text.proofs.put.put_small.Goals as goal

pub returns-then-number-lt10-clause-written : goal.returns-then-number-lt10-clause-written
returns-then-number-lt10-clause-written c = rw (decimal_digit c.args.number c.if-number-lt10.true) c.put_byte.ensures.written

pub returns-clause-written : goal.returns-clause-written
returns-clause-written c = rw (decimal_two c.args.number c.if-number-lt10.false c.requires.small) c.put_pair.ensures.written
