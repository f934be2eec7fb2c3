use Rattle.std.proofs.Common.{◌≡◌, take}
use Rattle.train_net.proofs.edge_lists.EdgeLists.of_lists.Given as goal

abbrev pub invariant-loop-list : goal.invariant-loop-list
invariant-loop-list l = l.all ≡ take l.list-index l.lists
