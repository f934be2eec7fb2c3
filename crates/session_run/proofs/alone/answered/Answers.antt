use Rattle.std.proofs.Common.{ap, ◌∙◌}
use Rattle.rail_model.specs.declared.items.Section.{Section}
use Rattle.plan_model.specs.declared.cut.Cut.{Cut}
use Rattle.session_run.proofs.alone.answered.Goals as goal

pub returns-clause-answer : goal.returns-clause-answer
returns-clause-answer c =
    let taken = c.in_ok-answer.ensures.reading in
    record {
      section = ap (λ (s : Section). s.name) c.section.ensures ∙ ap (λ (k : Cut). k.section.name) taken.cut;
      at = c.at.ensures ∙ taken.at;
      answer = c.in_ok-answer.ensures.answer;
    }
