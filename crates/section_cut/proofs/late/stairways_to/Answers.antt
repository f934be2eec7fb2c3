use Rattle.std.proofs.Common.{◌≡◌, map, subst, sym, ap, ◌∙◌, arith}
use Rattle.std.proofs.lemmas.List.{take_all}
use Rattle.std.proofs.lemmas.Option.{get_or_from_slice_get}
use Rattle.rail_model.specs.declared.items.Section.{Section}
use Rattle.rail_model.specs.Tables.{no_section, section_at}
use Rattle.section_cut.specs.Late.{IsLead, stair_to}
use Rattle.section_cut.proofs.LateRuns.{late_stairs}
use Rattle.section_cut.proofs.late.stairways_to.Goals as goal

pub returns : goal.returns
returns c =
    let tables = c.args.tables.now in
    let section = section_at tables c.args.section in
    let same : section ≡ c.section.result.now = get_or_from_slice_get tables.sections c.args.section c.section.result.now no_section c.section.ensures in
    let lead = c.most_lead-lead.result in
    let all = c.loop-run.invariant
    ∙ ap (map (stair_to tables c.section.result.now.to_s lead)) (take_all c.loop-run.run tables.runs (omega (arith, c.loop-run-test.false, c.runs-run-end.ensures.count)))
    ∙ ap (λ (s : Section). map (stair_to tables s.to_s lead) tables.runs) (sym same) in
    late_stairs tables section lead (subst (λ ps. IsLead ps lead) c.in_ok-paths.ensures.same c.most_lead-lead.ensures) c.loop-run.all all
