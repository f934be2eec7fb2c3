use Rattle.std.proofs.Common.{arith, ap, length, ◌∙◌}
use Rattle.train_net.specs.Net.{edges_to}
use Rattle.train_net.proofs.Parts.{length-parts}
use Rattle.train_net.proofs.edge_lists.EdgeLists.of.Goals as goal

pub part_of-requires-clause-there : goal.part_of-requires-clause-there
part_of-requires-clause-there c =
    omega (
      arith,
      c.requires,
      ap length c.self.view_is,
      length-parts 0 c.self.inside.ends.items c.self.inside.edges.items,
      ap length c.deref-2.ensures.value,
    )

pub part_of-requires-clause-ends : goal.part_of-requires-clause-ends
part_of-requires-clause-ends c = rw (c.deref.ensures.value, c.deref-2.ensures.value) c.self.invariant

pub returns : goal.returns
returns c = c.part_of.ensures ∙ rw (c.deref.ensures.value, c.deref-2.ensures.value) (ap (λ es. edges_to es c.args.member) c.self.view_is)
