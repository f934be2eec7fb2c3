use Rattle.std.proofs.Common.{arith, rules}
use Rattle.line_tables.proofs.Bits.{apart_more, apart_whole, meets_here}
use Rattle.line_tables.proofs.key_set.meet.Goals as goal

pub returns-then-one-word-ne0-clause-some : goal.returns-then-one-word-ne0-clause-some
returns-then-one-word-ne0-clause-some c e = meets_here c.args.one.now c.args.other.now c.loop-word.word c.if-one-word-ne0.true (search rules)

pub loop-word-preserved : goal.loop-word-preserved
loop-word-preserved c = apart_more c.args.one.now c.args.other.now c.loop-word.word c.if-one-word-ne0.false c.loop-word.invariant

pub returns-clause-none : goal.returns-clause-none
returns-clause-none c e =
    apart_whole c.args.one.now c.args.other.now c.loop-word.word (omega (arith, c.min-word-end.ensures, c.loop-word-test.false)) c.loop-word.invariant
