use Rattle.std.proofs.Common.{◌≡◌, refl, map, option_copied, ◌∙◌}
use Rattle.std.proofs.lemmas.Result.{IfOk-weaker}
use Rattle.plan_model.specs.Journal.{tables_of}
use Rattle.capacity_cmd.specs.Published.{last_answers, HaveAnswers}
use Rattle.capacity_cmd.proofs.LastAnswers.{have_answers}
use Rattle.capacity_cmd.proofs.published.answers_of_book.Goals as goal

pub returns : goal.returns
returns c =
    let journal = c.args.book.now in
    let tables = c.tables.result.now in
    let seen = c.slice.result.now in
    let same : last_answers seen tables.sections ≡ last_answers journal (tables_of journal).sections =
    rw (c.slice.ensures ∙ c.journal.ensures.same, c.tables.ensures) refl in
    IfOk-weaker c.last_answers.result (λ last. map option_copied last.items ≡ last_answers seen tables.sections)
    (λ answers. HaveAnswers (tables_of journal) (map option_copied answers.items))
    (λ last is. have_answers journal c.journal.ensures.is_journal.legal _ c.requires (is ∙ same))
    c.last_answers.ensures
