use Rattle.std.proofs.Common.{◌≡◌, length, map, w64, sym, ap, ◌∙◌, rules}
use Rattle.std.proofs.lemmas.Int.{to_z-of_z}
use Rattle.rail_model.specs.declared.stair.Stair.{Stair}
use Rattle.rail_model.specs.declared.stair.Use.{Use}
use Rattle.plan_model.specs.Cut.{least}
use Rattle.section_cut.specs.Members.{member_row}
use Rattle.section_cut.specs.Times.{with_times}
use Rattle.section_cut.proofs.RowTimes.{starts_of_times}
use Rattle.section_cut.proofs.one_run.row_with_times.Goals as goal

pub row_with-requires : goal.row_with-requires
row_with-requires c =
    let times : c.slice.result.now ≡ c.args.stair.now.uses = c.slice.ensures ∙ ap (λ (s : Stair). s.uses) c.stair-own.ensures in
    to_z-of_z w64 c.entry.result (search rules) ∙ c.entry.ensures
    ∙ ap (λ us. least (map (λ (u : Use). u.start) us)) (sym times)
    ∙ ap least (sym (starts_of_times c.args.places.now c.slice.result.now (c.requires ∙ sym (ap length times))))
    ∙ ap (λ us. least (map (λ (u : Use). u.start) us)) (sym c.in_ok-uses.ensures)

pub returns : goal.returns
returns c =
    let section = c.args.section.now in
    let times : c.slice.result.now ≡ c.args.stair.now.uses = c.slice.ensures ∙ ap (λ (s : Stair). s.uses) c.stair-own.ensures in
    c.row_with.ensures
    ∙ ap (λ (s : Stair). member_row section s.run c.args.stamp c.in_ok-uses.uses) c.stair-own.ensures
    ∙ ap (member_row section c.args.stair.now.run c.args.stamp)
    (c.in_ok-uses.ensures ∙ ap (with_times c.args.places.now) times)
