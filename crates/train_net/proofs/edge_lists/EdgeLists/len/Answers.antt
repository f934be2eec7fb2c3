use Rattle.std.proofs.Common.{ap, length, arith}
use Rattle.train_net.proofs.Parts.{length-parts}
use Rattle.train_net.proofs.edge_lists.EdgeLists.len.Goals as goal

pub returns : goal.returns
returns c =
    let ok = c.self.inside.ends.ok in
    omega (arith, ok, length-parts 0 c.self.inside.ends.items c.self.inside.edges.items, ap length c.self.view_is)
