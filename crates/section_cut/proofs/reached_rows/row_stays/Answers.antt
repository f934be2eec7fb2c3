use Rattle.std.proofs.Common.{◌≡◌, length, refl, sym, ap, ◌∙◌, subst}
use Rattle.std.specs.Prelude.{Some, IfSome, option_map}
use Rattle.std.specs.Option.{option_copied}
use Rattle.rail_model.specs.declared.stair.Stair.{Stair}
use Rattle.plan_model.specs.Cut.{stamped_row}
use Rattle.section_cut.specs.Connected.{with_rest}
use Rattle.section_cut.specs.Positions.{uses_in}
use Rattle.section_cut.specs.ReachedRuns.{IsOwnRow, StaysRow, row_after}
use Rattle.section_cut.proofs.RowsAfter.{joined_made, own_first}
use Rattle.section_cut.proofs.reached_rows.row_stays.Goals as goal

pub returns-then-has_uses : goal.returns-then-has_uses
returns-then-has_uses c = (
  λ e. subst (λ s. StaysRow c.args.table.section.now c.args.table.positions.now s (option_copied c.args.own)) (sym c.in-Some.is)
      (c.has_uses.ensures c.if-has_uses.true),
  λ stays. refl,
)

pub joined_to-requires : goal.joined_to-requires
joined_to-requires c =
    let section = c.args.table.section.now in
    let own = option_copied c.args.own in
    own_first section c.in-Some.stair.run own (subst (λ o. IfSome o (λ (s : Stair). IfSome own (IsOwnRow section s.run))) c.in-Some.is c.requires.own)

pub returns : goal.returns
returns c =
    let section = c.args.table.section.now in
    let positions = c.args.table.positions.now in
    let stair = c.in-Some.stair in
    let own = option_copied c.args.own in
    let uses = uses_in positions (length section.blocks) stair.uses in
    let value : option_map (stamped_row 0) c.in_ok-row.row ≡ row_after section positions (Some stair) (option_map (stamped_row 0) own) =
    ap (option_map (stamped_row 0)) (c.in_ok-row.ensures ∙ ap (option_map (with_rest section own)) c.in_ok-row_made.ensures)
    ∙ joined_made section own stair.run 0 uses in (
      λ e. subst (λ s. StaysRow section positions s own) (sym c.in-Some.is) (sym value ∙ c.is_same.ensures.0 e),
      λ stays. c.is_same.ensures.1 (value ∙ subst (λ s. StaysRow section positions s own) c.in-Some.is stays),
    )
