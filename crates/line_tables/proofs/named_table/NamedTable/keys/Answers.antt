use Rattle.slab.specs.Slab.{get as slot}
use Rattle.line_tables.proofs.Filed.{keys-filed}
use Rattle.line_tables.proofs.named_table.NamedTable.keys.Goals as goal

pub returns : goal.returns
returns g c =
    rw (← c.self.view_is, keys-filed (slot c.self.inside.slots) c.self.inside.order.items c.self.invariant.stored, c.in_ok-extend_from_slice-2.ensures.items, c.in_ok-extend_from_slice.ensures.items, c.in_ok-keys.ensures.items)
    c.as_slices.ensures.items
