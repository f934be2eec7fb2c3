use Rattle.std.proofs.Common.{take}
use Rattle.train_net.specs.Read.{IsSolved}
use Rattle.train_net.proofs.entering.earliest.Given as goal

abbrev pub invariant-loop-edge : goal.invariant-loop-edge
invariant-loop-edge l = IsSolved l.floor (take l.edge-index l.edges) l.entries l.entry
