use Rattle.std.proofs.Common.{ap, sym, ◌∙◌}
use Rattle.rail_model.specs.declared.items.Block.{Block}
use Rattle.line_tables.specs.Inside.{whole_tables, tables_of}
use Rattle.line_tables.proofs.Found.{name_under}
use Rattle.line_tables.proofs.Views.{map-with_change}
use Rattle.line_tables.proofs.JoinedBlocks.{block_stays, block_change}
use Rattle.line_tables.proofs.line_tables.LineTables.replace_block.Goals as goal

pub unwrap-key-requires : goal.unwrap-key-requires
unwrap-key-requires c = c.key_of.ensures.there ∙ block_stays (whole_tables c.self.inside) c.args.block (rw (← c.self.view_is) at c.requires)

pub change-requires : goal.change-requires
change-requires c =
    name_under (λ (b : Block). b.name) c.self.inside.blocks c.args.block.name c.unwrap-key.result c.key_of.ensures.table (sym c.key_of.ensures.key ∙ c.unwrap-key.ensures)

pub invariant_of-self : goal.invariant_of-self
invariant_of-self c =
    let same = name_under (λ (b : Block). b.name) c.self.inside.blocks c.args.block.name c.unwrap-key.result c.key_of.ensures.table (sym c.key_of.ensures.key ∙ c.unwrap-key.ensures) in
    rw c.change.ensures.changed (block_change (whole_tables c.self.inside) c.unwrap-key.result c.args.block c.self.invariant c.key_of.ensures.table same (rw (← c.self.view_is) at c.requires))

pub returns : goal.returns
returns c =
    let t = whole_tables c.self.inside in
    let key = c.unwrap-key.result in
    let same = name_under (λ (b : Block). b.name) t.blocks c.args.block.name key c.key_of.ensures.table (sym c.key_of.ensures.key ∙ c.unwrap-key.ensures) in
    rw (← c.self.view_is, c.change.ensures.changed)
    (ap (λ l. record (tables_of t) { blocks = l }) (map-with_change (λ (b : Block). b) (λ x. x.name) t.blocks key c.args.block c.key_of.ensures.table same))
