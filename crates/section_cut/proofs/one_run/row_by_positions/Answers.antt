use Rattle.std.proofs.Common.{◌≡◌, ◌<◌, length, sym, ap, ◌∙◌, subst}
use Rattle.std.specs.Prelude.{All, IfOk}
use Rattle.rail_model.specs.declared.stair.Stair.{Stair}
use Rattle.rail_model.specs.declared.stair.Use.{Use}
use Rattle.section_cut.specs.Members.{member_row}
use Rattle.section_cut.specs.Positions.{IsPositions, uses_in}
use Rattle.section_cut.specs.OneRun.{uses_of_section}
use Rattle.section_cut.proofs.MemberRows.{uses_by_positions}
use Rattle.section_cut.proofs.one_run.row_by_positions.Goals as goal

pub returns : goal.returns
returns c =
    let tables = c.args.tables.now in
    let section = c.args.section.now in
    let own = c.stair-own.result.now in
    let same : own ≡ c.args.stair.now = c.stair-own.ensures in
    let there = subst (λ (s : Stair). All (λ (u : Use). u.block < length tables.blocks) s.uses) (sym same) c.requires.there in
    let table = c.in_ok-positions.positions.items in
    let is : c.deref-2.result.now ≡ uses_of_section tables section own.uses =
    c.deref-2.ensures.value ∙ c.in_ok-gather.ensures
    ∙ ap (λ t. uses_in t (length section.blocks) c.slice.result.now) c.deref.ensures.value
    ∙ ap (uses_in table (length section.blocks)) c.slice.ensures
    ∙ uses_by_positions tables section table (subst (λ s. IsPositions tables s table) c.requires.section c.in_ok-positions.ensures) own.uses there in
    subst (λ (s : Stair). IfOk c.member_row.result (λ row. row ≡ member_row section s.run c.args.stamp (uses_of_section tables section s.uses))) same
    (subst (λ us. IfOk c.member_row.result (λ row. row ≡ member_row section own.run c.args.stamp us)) is c.member_row.ensures)
