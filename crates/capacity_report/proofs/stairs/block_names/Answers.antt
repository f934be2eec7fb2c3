use Rattle.std.proofs.Common.{◌≡◌, ◌++◌, ◌∷◌, ◌<◌, [], length, get_or, take, sym, ap, ◌∙◌, arith}
use Rattle.std.specs.Prelude.{unwrap_or}
use Rattle.std.proofs.lemmas.List.{take_more, length-map, get_or-map}
use Rattle.std.proofs.lemmas.Option.{unwrap_or-slice_get}
use Rattle.rail_model.specs.declared.items.Block.{Block}
use Rattle.rail_model.specs.Tables.{no_block}
use Rattle.capacity_report.specs.Blockings.{names_of}
use Rattle.capacity_report.proofs.stairs.block_names.Goals as goal

pub loop-block-preserved : goal.loop-block-preserved
loop-block-preserved c =
    let tables = c.args.tables.now in
    let n = c.loop-block.block in
    let block = c.block.result.now in
    let within : n < length tables.blocks = omega (arith, c.loop-block-test.true, c.blocks-block-end.ensures.count) in
    let read : get_or tables.blocks n no_block ≡ block = sym (unwrap_or-slice_get tables.blocks n no_block) ∙ ap (λ o. unwrap_or o no_block) c.block.ensures in
    let name : get_or (names_of tables) n [] ≡ c.in_ok-new.field-0 =
    get_or-map (λ (b : Block). b.name ∷ []) tables.blocks n no_block [] within ∙ ap (λ (b : Block). b.name ∷ []) read
    ∙ ap (λ bytes. bytes ∷ []) (sym c.bytes.ensures.same) ∙ sym c.in_ok-new.ensures in
    c.in_ok-push.ensures.items ∙ ap (λ names. names ++ c.in_ok-new.field-0 ∷ []) c.loop-block.invariant
    ∙ sym (take_more (names_of tables) n [] (omega (arith, within, length-map tables.blocks (λ (b : Block). b.name ∷ []))) ∙ ap (λ name. take n (names_of tables) ++ name ∷ []) name)
