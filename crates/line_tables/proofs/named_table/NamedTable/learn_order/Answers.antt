use Rattle.slab.specs.Slab.{get as slot}
use Rattle.line_tables.proofs.Kept.{table_is}
use Rattle.line_tables.proofs.named_table.NamedTable.learn_order.Goals as goal

pub returns : goal.returns
returns g c =
    rw (← c.self.view_is) (table_is g.T.Named.label (slot c.self.inside.slots) c.self.inside.order.items _ c.self.invariant)
