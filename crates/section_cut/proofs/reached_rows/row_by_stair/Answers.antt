use Rattle.std.proofs.Common.{length, ap, ◌∙◌, subst}
use Rattle.std.specs.Prelude.{option_map}
use Rattle.std.specs.Option.{option_copied}
use Rattle.plan_model.specs.Cut.{stamped_row}
use Rattle.section_cut.specs.Connected.{with_rest}
use Rattle.section_cut.specs.Positions.{uses_in}
use Rattle.section_cut.specs.ReachedRuns.{IsRowAfter}
use Rattle.section_cut.proofs.RowsAfter.{joined_made, own_first}
use Rattle.section_cut.proofs.reached_rows.row_by_stair.Goals as goal

pub joined_to-requires : goal.joined_to-requires
joined_to-requires c = own_first c.args.table.section.now c.args.stair.now.run (option_copied c.args.own) c.requires.own

pub returns : goal.returns
returns c =
    let section = c.args.table.section.now in
    let stair = c.args.stair.now in
    let own = option_copied c.args.own in
    let uses = uses_in c.args.table.positions.now (length section.blocks) stair.uses in
    subst (λ v. IsRowAfter v c.args.number own c.with_own_stamp.result)
    (ap (option_map (stamped_row 0)) (c.in_ok-row.ensures ∙ ap (option_map (with_rest section own)) c.in_ok-row_made.ensures)
    ∙ joined_made section own stair.run c.args.number uses)
    c.with_own_stamp.ensures
