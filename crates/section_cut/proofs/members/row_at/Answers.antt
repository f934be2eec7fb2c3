use Rattle.std.proofs.Common.{◌≡◌, ◌<◌, None, length, get_or, refl, sym, ap, ◌∙◌, subst}
use Rattle.std.specs.Prelude.{slice_index, All, IfOk}
use Rattle.rail_model.specs.declared.stair.Stair.{Stair}
use Rattle.rail_model.specs.declared.stair.Use.{Use}
use Rattle.rail_model.specs.Conflict.{stair_at}
use Rattle.section_cut.specs.Members.{member_row}
use Rattle.section_cut.specs.Positions.{uses_in}
use Rattle.section_cut.specs.Spans.{part_of}
use Rattle.section_cut.proofs.Outside.{outside_not_entered}
use Rattle.section_cut.proofs.Parts.{part_in, part_all}
use Rattle.section_cut.proofs.members.row_at.Goals as goal
use Rattle.section_cut.proofs.members.row_at.Goals.{After-part}

-- the part of the stairway's uses
part_is : (c : After-part) → c.part.result.now ≡ part_of (get_or c.args.table.spans.now c.args.n None) (stair_at c.args.stairs.now c.args.n).uses
part_is c = c.part.ensures ∙ ap (part_of (get_or c.args.table.spans.now c.args.n None)) (c.slice.ensures ∙ ap (λ (s : Stair). s.uses) c.stair-stair.ensures)

pub gather-requires : goal.gather-requires
gather-requires c =
    let There = All (λ (u : Use). u.block < length c.args.table.positions.now) in
    subst There (sym (part_is (goal.at.gather-requires c).After-part))
    (part_all (λ (u : Use). u.block < length c.args.table.positions.now) (get_or c.args.table.spans.now c.args.n None) (stair_at c.args.stairs.now c.args.n).uses c.requires.there)

pub returns : goal.returns
returns c =
    let section = c.args.table.section.now in
    let positions = c.args.table.positions.now in
    let blocks = length section.blocks in
    let stair = stair_at c.args.stairs.now c.args.n in
    let found : c.deref.result.now ≡ uses_in positions blocks stair.uses =
    c.deref.ensures.value ∙ c.in_ok-gather.ensures ∙ ap (uses_in positions blocks) (part_is (goal.at.returns c).After-part)
    ∙ part_in positions blocks (get_or c.args.table.spans.now c.args.n None) stair.uses c.requires.span in
    subst (λ (s : Stair). IfOk c.member_row.result (λ row. row ≡ member_row section s.run c.args.stamp (uses_in positions blocks stair.uses))) c.stair-stair.ensures
    (subst (λ us. IfOk c.member_row.result (λ row. row ≡ member_row section c.stair-stair.result.now.run c.args.stamp us)) found c.member_row.ensures)

pub returns-then-passes_by : goal.returns-then-passes_by
returns-then-passes_by c =
    let section = c.args.table.section.now in
    let stays = outside_not_entered section (slice_index c.args.table.positions.now) (length section.blocks) (stair_at c.args.stairs.now c.args.n).uses
    (c.passes_by.ensures c.if-passes_by.true) in
    rw stays refl
