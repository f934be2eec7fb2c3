use Rattle.std.proofs.Common.{arith}
use Rattle.train_order.proofs.First.{first_bit, no_bit}
use Rattle.train_order.proofs.member_set.bit_from.Goals as goal

pub returns-then-rest-eq0 : goal.returns-then-rest-eq0
returns-then-rest-eq0 c = no_bit c.args.word c.args.from (omega arith) c.if-rest-eq0.true

pub returns : goal.returns
returns c = first_bit c.args.word c.args.from c.ranges.word.fits (omega (arith, c.if-rest-eq0.false))
