use Rattle.std.proofs.Common.{sym}
use Rattle.row_text.proofs.Pieces.{prev-zero, prev-is}
use Rattle.row_text.proofs.fields.span.Goals as goal

pub returns-then-i-eq0-clause-start : goal.returns-then-i-eq0-clause-start
returns-then-i-eq0-clause-start c = sym (prev-zero c.args.ends.now c.args.i c.if-i-eq0.true)

pub returns-clause-start : goal.returns-clause-start
returns-clause-start c = sym (prev-is c.args.ends.now c.args.i c.if-i-eq0.false c.requires)
