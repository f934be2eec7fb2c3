use Rattle.std.proofs.Common.{ap, ◌∙◌}
use Rattle.rail_model.specs.declared.items.Section.{Section}
use Rattle.plan_model.specs.declared.cut.Cut.{Cut}
use Rattle.plan_model.proofs.Readings.{reading_done}
use Rattle.compression.proofs.Taken.{kept_cut}
use Rattle.acceptance_seats.proofs.books.answered.Goals as goal

pub returns : goal.returns
returns c =
    let kept = kept_cut c.args.reading c.answer.new.reading c.answer.ensures.reading in
    reading_done 0 1 c.args.book.now c.args.reading c.requires
    (record { section = c.section.result.now.name; at = c.at.result; answer = c.in_ok-answer.answer })
    (record {
      section = ap (λ (s : Section). s.name) c.section.ensures ∙ ap (λ (k : Cut). k.section.name) kept.0;
      at = c.at.ensures ∙ kept.1;
      answer = c.in_ok-answer.ensures.answer;
    })
