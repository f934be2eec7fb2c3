use Rattle.std.proofs.Common.{take}
use Rattle.std.specs.List.{AllZip}
use Rattle.train_net.specs.Mending.{IsMoved}
use Rattle.train_net.proofs.mending.move_edges.Given as goal

-- the first edges
abbrev pub invariant-loop-edge : goal.invariant-loop-edge
invariant-loop-edge l = AllZip (IsMoved l.now) (take l.edge-index l.edges) l.moved.items
