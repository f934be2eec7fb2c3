use Rattle.std.proofs.Common.{arith}
use Rattle.slab.specs.Slab.{get as slot}
use Rattle.line_tables.proofs.Filed.{length-filed}
use Rattle.line_tables.proofs.named_table.NamedTable.len.Goals as goal

pub returns : goal.returns
returns g c =
    rw (← c.self.view_is) (omega (arith, length-filed (slot c.self.inside.slots) c.self.inside.order.items c.self.invariant.stored))
