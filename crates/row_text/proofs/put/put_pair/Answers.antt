use Rattle.std.proofs.Common.{append_assoc, refl, ◌∙◌}
use Rattle.itoa.proofs.Decimal.{PAIRS_at}
use Rattle.row_text.proofs.put.put_pair.Goals as goal

pub returns-clause-written : goal.returns-clause-written
returns-clause-written c =
    let digits = PAIRS_at c.args.pair c.requires.small in
    c.put_byte.ensures.written ∙ rw (c.put_byte-at.ensures.written, append_assoc, digits.0, digits.1) refl
