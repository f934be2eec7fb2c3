use Rattle.std.proofs.Common.{sym, ◌∙◌}
use Rattle.train_net.proofs.Gathering.{other_tighter, one_tighter}
use Rattle.train_net.proofs.edges.tighter.Goals as goal

pub returns-then-takes_over-clause-tighter : goal.returns-then-takes_over-clause-tighter
returns-then-takes_over-clause-tighter c =
    other_tighter c.args.cut.now c.args.one c.args.other c.requires.same (sym c.takes_over.ensures ∙ c.if-takes_over.true)

pub returns-clause-tighter : goal.returns-clause-tighter
returns-clause-tighter c =
    one_tighter c.args.cut.now c.args.one c.args.other c.requires.same (sym c.takes_over.ensures ∙ c.if-takes_over.false)
