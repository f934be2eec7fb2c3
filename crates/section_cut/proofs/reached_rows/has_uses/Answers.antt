use Rattle.plan_model.specs.Cut.{AreBlocksFirst}
use Rattle.std.proofs.Common.{◌≡◌, length, map, sym, ap, ◌∙◌, subst}
use Rattle.std.specs.Prelude.{Some, IfSome}
use Rattle.std.specs.Option.{option_copied}
use Rattle.section_cut.specs.Connected.{block_part}
use Rattle.section_cut.specs.Positions.{with_position}
use Rattle.section_cut.specs.ReachedRuns.{IsOwnRow, StaysRow}
use Rattle.section_cut.proofs.RowsAfter.{same_value}
use Rattle.section_cut.proofs.reached_rows.has_uses.Goals as goal

pub block_part-requires : goal.block_part-requires
block_part-requires c =
    let section = c.args.table.section.now in
    let own = subst (λ o. IfSome (option_copied o) (IsOwnRow section c.args.stair.now.run)) c.in-Some.is c.requires.own in
    subst (AreBlocksFirst (length section.blocks)) (sym c.slice.ensures) own.first

pub returns-in-Some : goal.returns-in-Some
returns-in-Some c told =
    let section = c.args.table.section.now in
    let positions = c.args.table.positions.now in
    let stair = c.args.stair.now in
    let row = c.in-Some.row.now in
    let own = subst (λ o. IfSome (option_copied o) (IsOwnRow section stair.run)) c.in-Some.is c.requires.own in
    let same : map (with_position positions) c.args.uses.now ≡ block_part section row.uses =
    c.same_placed.ensures.0 told ∙ c.block_part.ensures ∙ ap (block_part section) c.slice.ensures in
    subst (λ o. StaysRow section positions (Some stair) (option_copied o)) (sym c.in-Some.is)
    (same_value section stair row own positions c.args.uses.now c.requires.uses same)
