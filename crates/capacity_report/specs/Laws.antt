-- Laws of totals.
use Rattle.std.specs.Prelude.{List}
use Rattle.plan_model.specs.declared.answer.Answer.{Answer}
use Rattle.capacity_report.specs.Answers.{total_of, AddsUp}

-- the counts of the total of any answers add up
abbrev pub TotalAddsUp : Type 0
TotalAddsUp = (answers : List Answer) → AddsUp (total_of answers)
