use Rattle.std.proofs.Common.{List, Option, Some, option_copied, slice_set, refl, sym, ap, ◌∙◌}
use Rattle.std.proofs.lemmas.List.{map-set}
use Rattle.plan_model.specs.declared.answer.Answer.{Answer}
use Rattle.capacity_cmd.proofs.LastAnswers.{all_kept, publishes_none, others_kept, one_set}
use Rattle.capacity_cmd.proofs.published.note.Goals as goal

pub returns-in-Some-clause-last : goal.returns-in-Some-clause-last
returns-in-Some-clause-last c = λ before were.
    let published = c.in-Published in
    map-set option_copied c.args.last.now c.in-Some.number _
    ∙ ap (λ (l : List (Option Answer)). slice_set l c.in-Some.number (Some published.answer)) were
    ∙ one_set before c.args.entry.now _ _ published.answer published.is c.args.tables.now.sections c.in-Some.number
    c.requires.sound.sections.names c.in-Some.ensures.number c.in-Some.ensures.in_range

pub returns-in_default-section_number-clause-last :
    goal.returns-in_default-section_number-clause-last
returns-in_default-section_number-clause-last c = λ before were.
    were ∙ others_kept before c.args.entry.now _ _ _ c.in-Published.is c.args.tables.now.sections (sym c.in_default-section_number.ensures.there)

pub returns-in_default : goal.returns-in_default
returns-in_default c = record {
  count = refl;
  last = λ before were. were ∙ all_kept before c.args.entry.now c.args.tables.now.sections (publishes_none c.args.entry.now.act c.in_default.not-Published);
}
