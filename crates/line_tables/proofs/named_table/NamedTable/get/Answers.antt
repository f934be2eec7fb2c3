use Rattle.std.proofs.Common.{subst, ◌∙◌}
use Rattle.std.specs.Prelude.{IsSome}
use Rattle.slab.specs.Slab.{get as slot}
use Rattle.line_tables.proofs.Filed.{under_slot}
use Rattle.line_tables.proofs.Kept.{table_is}
use Rattle.line_tables.proofs.named_table.NamedTable.get.Goals as goal

pub index-requires : goal.index-requires
index-requires g c =
    let there = rw (← c.self.view_is) at c.requires in
    subst IsSome (under_slot (slot c.self.inside.slots) c.self.inside.order.items c.args.key c.self.invariant.stored there) there

pub returns-clause-item : goal.returns-clause-item
returns-clause-item g c =
    let there = rw (← c.self.view_is) at c.requires in
    rw (← c.self.view_is) (under_slot (slot c.self.inside.slots) c.self.inside.order.items c.args.key c.self.invariant.stored there ∙ c.index.ensures)

pub returns-clause-table : goal.returns-clause-table
returns-clause-table g c =
    rw (← c.self.view_is) (table_is g.T.Named.label (slot c.self.inside.slots) c.self.inside.order.items _ c.self.invariant)
