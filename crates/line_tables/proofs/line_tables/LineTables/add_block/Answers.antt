use Rattle.std.proofs.Common.{ℕ, ap}
use Rattle.rail_model.specs.declared.items.Block.{Block}
use Rattle.line_tables.specs.Inside.{whole_tables, tables_of}
use Rattle.line_tables.proofs.Views.{map-with_item}
use Rattle.line_tables.proofs.JoinedBlocks.{block_is_new, block_put}
use Rattle.line_tables.proofs.line_tables.LineTables.add_block.Goals as goal

pub put-requires : goal.put-requires
put-requires c = block_is_new (whole_tables c.self.inside) c.args.block (rw (← c.self.view_is) at c.requires)

pub invariant_of-self-2 : goal.invariant_of-self-2
invariant_of-self-2 c =
    let done = c.in_ok-put.ensures in
    rw done.put (block_put (whole_tables c.self.inside) c.in_ok-put.field-0 c.args.block c.self.invariant done.table (rw (← c.self.view_is) at c.requires))

pub returns-clause-put : goal.returns-clause-put
returns-clause-put c =
    let t = whole_tables c.self.inside in
    rw (← c.self.view_is, c.in_ok-put.ensures.put)
    (ap (λ l. record (tables_of t) { blocks = l }) (map-with_item (λ (e : ℕ × Block). e.1) (λ x. x.name) t.blocks (c.in_ok-put.field-0, c.args.block)))
