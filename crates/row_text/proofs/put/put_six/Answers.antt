use Rattle.std.proofs.Common.{append_assoc, refl, ◌∙◌, arith}
use Rattle.itoa.proofs.Decimal.{decimal_pair}
use Rattle.row_text.proofs.put.put_six.Goals as goal

pub returns-clause-written : goal.returns-clause-written
returns-clause-written c =
    c.put_pair.ensures.written
    ∙ rw (c.put_four-at.ensures.written, append_assoc, decimal_pair c.args.number (omega (arith, c.requires.more)) (omega (arith, c.requires.small))) refl
