use Rattle.std.proofs.Common.{◌≡◌, [], ◌∷◌, refl, rules}
use Rattle.std.specs.Prelude.{IfOk}
use Rattle.std.proofs.lemmas.Result.{IfOk-weaker}
use Rattle.row_text.specs.SheetRows.{text_of_rows}
use Rattle.plan_model.specs.declared.answer.Answer.TheVariants as answer
use Rattle.plan_model.specs.Members.{member_count}
use Rattle.capacity_report.specs.Answers.{crowded_row}
use Rattle.capacity_cmd.specs.Ends.{IsHeadText}
use Rattle.capacity_cmd.proofs.no_plan.crowded_text.Goals as goal

pub returns-clause-head : goal.returns-clause-head
returns-clause-head c =
    let cut = c.args.cut.now in
    let row : IfOk c.of.result (λ text. text ≡ text_of_rows (crowded_row cut.section.name (member_count cut) ∷ [])) = search rules in
    IfOk-weaker c.of.result (λ text. text ≡ text_of_rows (crowded_row cut.section.name (member_count cut) ∷ [])) (IsHeadText cut)
    (λ text is. (answer.Crowded (member_count cut), (c.requires.many, refl), tt, is))
    row
