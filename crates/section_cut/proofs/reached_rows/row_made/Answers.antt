use Rattle.std.proofs.Common.{◌≡◌, length, refl, ◌∙◌, subst}
use Rattle.std.specs.Prelude.{slice_index, IfOk}
use Rattle.rail_model.specs.declared.stair.Stair.{Stair}
use Rattle.section_cut.specs.Members.{member_row}
use Rattle.section_cut.specs.Positions.{uses_in}
use Rattle.section_cut.proofs.Outside.{outside_not_entered, early_not_entered}
use Rattle.section_cut.proofs.reached_rows.row_made.Goals as goal

pub returns-then-passes_by : goal.returns-then-passes_by
returns-then-passes_by c =
    let section = c.args.table.section.now in
    let stays = outside_not_entered section (slice_index c.args.table.positions.now) (length section.blocks) c.args.stair.now.uses
    (c.passes_by.ensures c.if-passes_by.true) in
    rw stays refl

pub returns-then-enters_early : goal.returns-then-enters_early
returns-then-enters_early c =
    let stays = early_not_entered c.args.table.section.now (slice_index c.args.table.positions.now) c.args.stair.now.uses
    (c.enters_early.ensures c.if-enters_early.true) in
    rw stays refl

pub returns : goal.returns
returns c =
    let section = c.args.table.section.now in
    let uses = uses_in c.args.table.positions.now (length section.blocks) c.args.stair.now.uses in
    let found : c.deref.result.now ≡ uses = c.deref.ensures.value ∙ c.in_ok-gather.ensures ∙ c.requires.same in
    subst (λ (s : Stair). IfOk c.member_row.result (λ row. row ≡ member_row section s.run c.args.stamp uses)) c.stair.ensures
    (subst (λ us. IfOk c.member_row.result (λ row. row ≡ member_row section c.stair.result.now.run c.args.stamp us)) found c.member_row.ensures)
