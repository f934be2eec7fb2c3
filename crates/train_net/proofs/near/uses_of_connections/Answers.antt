use Rattle.std.proofs.Common.{◌-◌, ◌<◌, get_or, arith}
use Rattle.plan_model.specs.Members.{no_use}
use Rattle.train_net.proofs.Connections.{there, no_block, same}
use Rattle.train_net.proofs.near.uses_of_connections.Goals as goal
use Rattle.train_net.proofs.near.uses_of_connections.Goals.{then-loop-from-test+else-uses-from, else-loop-from-test}

-- the use before the first that is given, if there is one, is of a block
stops : (c : goal.After-result-1) → 0 < c.loop-from.from → (get_or c.args.uses.now (c.loop-from.from - 1) no_use).block < c.args.blocks
stops c some = elim c.loop-from-test.branch [
  | then-loop-from-test+else-uses-from w ↦ w.if-uses-from.false
  | else-loop-from-test w ↦ absurd (omega (arith, some, w.loop-from-test.false))
]

pub returns-clause-part : goal.returns-clause-part
returns-clause-part c =
    there c.args.blocks c.args.uses.now c.requires c.loop-from.from c.loop-from.invariant.within c.loop-from.invariant.connections (stops c)

pub returns-clause-connections : goal.returns-clause-connections
returns-clause-connections c =
    same c.args.blocks c.args.uses.now c.requires c.loop-from.from c.loop-from.invariant.within c.loop-from.invariant.connections (stops c)

pub returns-clause-blocks : goal.returns-clause-blocks
returns-clause-blocks c =
    no_block c.args.blocks c.args.uses.now c.requires c.loop-from.from c.loop-from.invariant.within c.loop-from.invariant.connections (stops c)
