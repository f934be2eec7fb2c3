use Rattle.std.proofs.Common.{rules}
use Rattle.line_tables.proofs.Bits.{joined_more, joined_whole}
use Rattle.line_tables.proofs.key_set.join.Goals as goal

pub loop-word-preserved : goal.loop-word-preserved
loop-word-preserved c =
    joined_more c.args.words.now c.args.others.now c.loop-word.words c.loop-word.word (search rules) c.loop-word.invariant

pub returns : goal.returns
returns c =
    joined_whole c.args.words.now c.args.others.now c.loop-word.words c.loop-word.word c.loop-word-test.false c.loop-word.invariant
