use Rattle.std.proofs.Common.{arith}
use Rattle.train_order.specs.declared.found.Disordered.TheVariants as disordered
use Rattle.train_order.proofs.Answered.{told_is}
use Rattle.train_order.proofs.Opposed.{pair_opposed}
use Rattle.train_order.proofs.ordering.told_pair.Goals as goal

pub opposite-requires-clause-one : goal.opposite-requires-clause-one
opposite-requires-clause-one c =
    let are = pair_opposed c.args.cut.now c.args.pair.0 c.args.pair.1 c.requires in
    omega (arith, are.lesser, are.there)

pub opposite-requires-clause-other : goal.opposite-requires-clause-other
opposite-requires-clause-other c = (pair_opposed c.args.cut.now c.args.pair.0 c.args.pair.1 c.requires).there

pub opposite-requires-clause-precedes : goal.opposite-requires-clause-precedes
opposite-requires-clause-precedes c = (pair_opposed c.args.cut.now c.args.pair.0 c.args.pair.1 c.requires).precedes

pub opposite-requires-clause-preceded : goal.opposite-requires-clause-preceded
opposite-requires-clause-preceded c = (pair_opposed c.args.cut.now c.args.pair.0 c.args.pair.1 c.requires).preceded

pub returns : goal.returns
returns c =
    told_is c.args.cut.now (disordered.Opposite c.args.pair.0 c.args.pair.1) c.opposite.result c.requires c.opposite.ensures
