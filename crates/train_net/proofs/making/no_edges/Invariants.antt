use Rattle.std.proofs.Common.{◌≡◌, length}
use Rattle.train_net.proofs.making.no_edges.Given as goal

abbrev pub invariant-loop-made : goal.invariant-loop-made
invariant-loop-made l = length l.edges.items ≡ l._made
