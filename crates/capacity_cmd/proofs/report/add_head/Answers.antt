use Rattle.std.proofs.Common.{◌++◌, sym, ap, ◌∙◌}
use Rattle.std.proofs.lemmas.Option.{get_or_from_slice_get}
use Rattle.rail_model.specs.declared.items.Section.{Section}
use Rattle.rail_model.specs.Tables.{no_section}
use Rattle.capacity_report.specs.declared.answers.Detail.TheVariants as detail
use Rattle.capacity_report.specs.Answers.{answer_rows}
use Rattle.capacity_cmd.proofs.report.add_head.Goals as goal

pub returns : goal.returns
returns c =
    let tables = c.args.tables.now in
    let answer = c.args.answer.now in
    let section_is = get_or_from_slice_get tables.sections c.args.number c.section.result.now no_section c.section.ensures in
    record {
      answer = answer;
      is = c.requires.answer;
      head = c.in_ok-answer_rows.ensures.ok
          ∙ ap (λ (section : Section). c.args.sheet.now.rows ++ answer_rows section.name answer detail.Head) (sym section_is);
      counted = c.add.ensures;
    }
