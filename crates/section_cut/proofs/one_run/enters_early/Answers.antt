use Rattle.std.proofs.Common.{◌≡◌, ◌<◌, length, sym, ap, subst}
use Rattle.std.proofs.lemmas.Option.{get_or_from_slice_get}
use Rattle.rail_model.specs.declared.items.Block.{Block}
use Rattle.rail_model.specs.Tables.{no_block, number_of, block_name}
use Rattle.plan_model.specs.Cut.{position_in_section}
use Rattle.section_cut.proofs.one_run.enters_early.Goals as goal

pub returns : goal.returns
returns c told =
    let tables = c.args.tables.now in
    let names = c.args.section.now.blocks in
    let block = c.in-Some.block in
    let named : c.block.result.now.name ≡ block_name tables block =
    ap (λ (b : Block). b.name) (sym (get_or_from_slice_get tables.blocks block c.block.result.now no_block c.block.ensures)) in
    let inside : position_in_section tables c.args.section.now block < length names =
    subst (λ m. number_of (λ n. n) names m < length names) named
    (subst (λ ns. number_of (λ n. n) ns c.block.result.now.name < length ns) c.slice.ensures (c.has_name.ensures.0 told)) in
    record { block = block; early = c.in-Some.ensures; inside = inside }
