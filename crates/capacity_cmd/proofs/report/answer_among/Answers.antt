use Rattle.std.proofs.Common.{◌∙◌, subst}
use Rattle.std.specs.Prelude.{IfOk}
use Rattle.std.proofs.lemmas.Result.{IfOk-weaker}
use Rattle.rail_model.specs.Tables.{section_at}
use Rattle.plan_model.specs.declared.cut.Cut.{Cut}
use Rattle.plan_model.specs.Answer.{IsAnswer}
use Rattle.capacity_report.specs.Answers.{IsAnswerOfSome}
use Rattle.capacity_cmd.proofs.Cuts.{stamped_none}
use Rattle.capacity_cmd.proofs.report.answer_among.Goals as goal

pub returns-clause-answer : goal.returns-clause-answer
returns-clause-answer c =
    let tables = c.args.tables.now in
    subst (λ (cut : Cut). IfOk c.answer_of.result (IsAnswer cut))
    (c.in_ok-cut.ensures.same ∙ stamped_none tables (section_at tables c.args.number)) c.answer_of.ensures

pub returns-clause-of_some : goal.returns-clause-of_some
returns-clause-of_some c =
    IfOk-weaker c.answer_of.result (IsAnswer c.in_ok-cut.cut) IsAnswerOfSome
    (λ a is. record { cut = c.in_ok-cut.cut; sound = c.in_ok-cut.ensures.sound; is = is }) c.answer_of.ensures
