use Rattle.std.proofs.Common.{ℕ, ap}
use Rattle.rail_model.specs.declared.items.Block.{Block}
use Rattle.line_tables.specs.Inside.{whole_tables, tables_of}
use Rattle.line_tables.proofs.Views.{map-without}
use Rattle.line_tables.proofs.JoinedBlocks.{block_is_there, block_drop}
use Rattle.line_tables.proofs.line_tables.LineTables.remove_block.Goals as goal

pub take-requires : goal.take-requires
take-requires c = block_is_there (whole_tables c.self.inside) c.args.name.now (rw (← c.self.view_is) at c.requires)

pub invariant_of-self : goal.invariant_of-self
invariant_of-self c =
    rw c.take.ensures.rest (block_drop (whole_tables c.self.inside) c.args.name.now c.self.invariant c.take.ensures.table (rw (← c.self.view_is) at c.requires))

pub returns : goal.returns
returns c =
    let t = whole_tables c.self.inside in
    rw (← c.self.view_is, c.take.ensures.rest)
    (ap (λ l. record (tables_of t) { blocks = l }) (map-without (λ (e : ℕ × Block). e.1) (λ x. x.name) t.blocks c.args.name.now))
