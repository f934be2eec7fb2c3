use Rattle.std.proofs.Common.{arith, rules}
use Rattle.line_tables.proofs.Bits.{parted_more, parted_whole}
use Rattle.line_tables.proofs.key_set.part.Goals as goal

pub loop-word-preserved : goal.loop-word-preserved
loop-word-preserved c =
    parted_more c.args.words.now c.args.others.now c.loop-word.words c.loop-word.word (search rules) (search rules) c.loop-word.invariant

pub returns : goal.returns
returns c =
    parted_whole c.args.words.now c.args.others.now c.loop-word.words c.loop-word.word (omega (arith, c.min-word-end.ensures, c.loop-word-test.false)) c.loop-word.invariant
