use Rattle.train_net.proofs.Walking.{HasEdges}
use Rattle.train_net.proofs.making.put_edges.Given as goal

-- the edges to the first trains, and who stands nearest after them
abbrev pub invariant-loop-train : goal.invariant-loop-train
invariant-loop-train l = HasEdges l.cut l.order l.train-index l.edges l.near
