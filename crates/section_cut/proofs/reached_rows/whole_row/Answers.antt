use Rattle.std.proofs.Common.{◌≡◌, ◌<◌, length, map, Some, sym, ap, ◌∙◌, subst, arith}
use Rattle.std.specs.Prelude.{All, IfSome, option_map}
use Rattle.std.proofs.lemmas.List.{take_all}
use Rattle.rail_model.specs.declared.stair.Stair.{Stair}
use Rattle.rail_model.specs.declared.stair.Use.{Use}
use Rattle.plan_model.specs.Cut.{stamped_row, AreBlocksFirst}
use Rattle.section_cut.specs.Connected.{block_part, with_rest}
use Rattle.section_cut.specs.Members.{member_row}
use Rattle.section_cut.specs.Positions.{ArePlaced, with_position, uses_in}
use Rattle.section_cut.specs.ReachedRuns.{IsRowAfter, row_after}
use Rattle.section_cut.proofs.Placing.{placed_in}
use Rattle.section_cut.proofs.RowsAfter.{blocks_inside, same_after, joined_made}
use Rattle.section_cut.proofs.reached_rows.whole_row.Goals as goal

pub block_part-uses-requires : goal.block_part-uses-requires
block_part-uses-requires c = subst (AreBlocksFirst (length c.args.table.section.now.blocks)) (sym c.slice.ensures) c.requires.own.first

pub placed-requires-clause-inside : goal.placed-requires-clause-inside
placed-requires-clause-inside c =
    let section = c.args.table.section.now in
    subst (All (λ (u : Use). u.block < length section.blocks)) (sym (c.block_part-uses.ensures ∙ ap (block_part section) c.slice.ensures))
    (blocks_inside section c.args.own.now)

pub returns : goal.returns
returns c =
    let section = c.args.table.section.now in
    let own = c.args.own.now in
    let stair = c.args.stair.now in
    let positions = c.args.table.positions.now in
    let blocks = length section.blocks in
    let uses = c.in-Some.uses in
    let placed : ArePlaced positions blocks c.args.stairway.now uses =
    subst (λ o. IfSome o (ArePlaced positions blocks c.args.stairway.now)) c.in-Some.is c.in_ok-uses.ensures in
    let is : c.row_with-row.result ≡ member_row section stair.run c.args.number (uses_in positions blocks stair.uses) =
    c.row_with-row.ensures ∙ ap (λ (s : Stair). member_row section s.run c.args.number uses) c.stair.ensures
    ∙ ap (member_row section stair.run c.args.number) (sym (placed_in positions blocks c.args.stairway.now uses placed) ∙ c.requires.uses.same) in
    subst (λ v. IsRowAfter v c.args.number (Some own) c.with_own_stamp.result)
    (ap (option_map (stamped_row 0)) (c.in_ok-row.ensures ∙ ap (option_map (with_rest section (Some own))) is)
    ∙ joined_made section (Some own) stair.run c.args.number (uses_in positions blocks stair.uses))
    c.with_own_stamp.ensures

pub returns-then-same-uses : goal.returns-then-same-uses
returns-then-same-uses c =
    let section = c.args.table.section.now in
    let own = c.args.own.now in
    let stair = c.args.stair.now in
    let positions = c.args.table.positions.now in
    let n = c.same_first-same.result in
    let first = c.block_part-uses.result.now in
    let all = c.args.stairway.now in
    let same : map (with_position positions) all ≡ block_part section own.uses =
    ap (map (with_position positions)) (sym (take_all n all (omega (arith, c.if-same-uses.true, c.if-uses-stairway.false))))
    ∙ c.same_first-same.ensures.so_far.same
    ∙ take_all n first (omega (arith, c.if-same-uses.true)) ∙ c.block_part-uses.ensures ∙ ap (block_part section) c.slice.ensures in
    subst (λ r. IsRowAfter (row_after section positions (Some stair) (Some (stamped_row 0 own))) c.args.number (Some own) (Some r))
    (sym c.in_ok-copy.ensures)
    (same_after section stair own c.requires.own positions all c.requires.uses c.args.number same)
