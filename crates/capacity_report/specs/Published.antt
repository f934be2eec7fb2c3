-- What the rows of a journal rest on.
use Rattle.std.specs.Prelude.{⊤}
use Rattle.plan_model.specs.declared.journal.Act.{Act}
use Rattle.plan_model.specs.declared.journal.Act.TheVariants as act
use Rattle.capacity_report.specs.Answers.{IsAnswerOfSome}

-- an answer that is published is that of a sound cut
abbrev pub PublishesAnswer : Act → Type 0
PublishesAnswer (act.Opened tables at scripts) = ⊤
PublishesAnswer (act.Entered number) = ⊤
PublishesAnswer (act.Edited planner at edit) = ⊤
PublishesAnswer (act.Refused planner rule edit) = ⊤
PublishesAnswer (act.Asked planner section reply) = ⊤
PublishesAnswer (act.Published section at answer) = IsAnswerOfSome answer
