use Rattle.std.proofs.Common.{◌≡◌, List, ◌++◌, ap, ◌∙◌}
use Rattle.std.proofs.lemmas.Result.{IfOk-weaker}
use Rattle.row_text.specs.SheetRows.{Row, text_of_rows}
use Rattle.capacity_report.specs.declared.answers.Detail.TheVariants as detail
use Rattle.capacity_report.specs.Answers.{answer_rows}
use Rattle.capacity_cmd.specs.Ends.{IsCompressText}
use Rattle.capacity_cmd.proofs.compress.answer_text.Goals as goal

pub answer_rows-requires : goal.answer_rows-requires
answer_rows-requires c = record { cut = c.args.cut.now; sound = c.requires.sound; is = c.requires.answer }

pub returns : goal.returns
returns c =
    let rows = answer_rows c.args.cut.now.section.name c.args.answer.now detail.Full in
    IfOk-weaker c.of.result (λ text. text ≡ c.into_text.result.items) (IsCompressText c.args.cut.now)
    (λ text is. (
      c.args.answer.now,
      c.requires.answer,
      is ∙ c.into_text.ensures ∙ ap text_of_rows (c.in_ok-answer_rows.ensures.ok ∙ ap (λ (r : List Row). r ++ rows) c.new-sheet.ensures.rows),
    ))
    c.of.ensures
