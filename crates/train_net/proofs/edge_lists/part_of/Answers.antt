use Rattle.std.proofs.Common.{arith, [], length, ◌∙◌, sym}
use Rattle.train_net.proofs.Parts.{part_within, get_or-parts}
use Rattle.train_net.proofs.edge_lists.part_of.Goals as goal

pub between-requires-clause-rise : goal.between-requires-clause-rise
between-requires-clause-rise c =
    omega (arith, (part_within 0 c.args.ends.now (length c.args.edges.now) c.args.member c.requires.ends c.requires.there).0, c.start_of.ensures)

pub between-requires-clause-within : goal.between-requires-clause-within
between-requires-clause-within c =
    omega (arith, (part_within 0 c.args.ends.now (length c.args.edges.now) c.args.member c.requires.ends c.requires.there).1)

pub returns : goal.returns
returns c =
    c.between.ensures
    ∙ rw (c.start_of.ensures) (sym (get_or-parts 0 c.args.ends.now c.args.edges.now c.args.member [] c.requires.there))
