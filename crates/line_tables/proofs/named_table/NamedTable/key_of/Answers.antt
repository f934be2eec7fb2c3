use Rattle.slab.specs.Slab.{get as slot}
use Rattle.std.proofs.Common.{◌∙◌, ap}
use Rattle.std.specs.Prelude.{is_some}
use Rattle.line_tables.specs.Table.{filed}
use Rattle.line_tables.proofs.Entries.{is_some-key_of}
use Rattle.line_tables.proofs.Kept.{table_is}
use Rattle.line_tables.proofs.named_table.NamedTable.key_of.Goals as goal

pub returns-clause-table : goal.returns-clause-table
returns-clause-table g c =
    rw (← c.self.view_is) (table_is g.T.Named.label (slot c.self.inside.slots) c.self.inside.order.items _ c.self.invariant)

pub returns-clause-there : goal.returns-clause-there
returns-clause-there g c =
    let items = filed (slot c.self.inside.slots) c.self.inside.order.items in
    rw (← c.self.view_is)
    (ap is_some (c.copied.ensures ∙ c.get.ensures.value ∙ c.self.invariant.found c.args.name.now)
    ∙ is_some-key_of g.T.Named.label items c.args.name.now)
