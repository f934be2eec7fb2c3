use Rattle.std.proofs.Common.{◌<◌, [], length, sym, ap, ◌∙◌, arith}
use Rattle.rail_model.specs.declared.tables.Tables.{Tables}
use Rattle.plan_model.specs.Journal.{tables_of}
use Rattle.capacity_cmd.proofs.Counted.{one_counted, answers_counted}
use Rattle.capacity_cmd.proofs.LastAnswers.{answer_there, none_missing}
use Rattle.capacity_cmd.proofs.made.counts_of_book.Goals as goal

pub loop-number-init : goal.loop-number-init
loop-number-init c = record { answers = []; are = tt; counted_is = c.none-counts.ensures }

pub loop-number-preserved : goal.loop-number-preserved
loop-number-preserved c =
    let tables = tables_of c.args.book.now in
    let n = c.loop-number.number in
    let count = c.sections-number-end.ensures.count ∙ ap (λ (t : Tables). length t.sections) c.tables.ensures in
    let there : n < length tables.sections = omega (arith, c.loop-number-test.true, count) in
    let is = answer_there tables n there c.in_ok-answers.answers.items c.in_ok-answers.ensures _ _ (sym c.index.ensures ∙ c.in-Some.is) in
    one_counted tables n _ _ there c.loop-number.invariant
    (record { answer = c.in-Some.answer.now; is = is.0; counted = c.add.ensures })

pub add-requires-clause-answer : goal.add-requires-clause-answer
add-requires-clause-answer c =
    let tables = tables_of c.args.book.now in
    let n = c.loop-number.number in
    let count = c.sections-number-end.ensures.count ∙ ap (λ (t : Tables). length t.sections) c.tables.ensures in
    let there : n < length tables.sections = omega (arith, c.loop-number-test.true, count) in
    (answer_there tables n there c.in_ok-answers.answers.items c.in_ok-answers.ensures _ _ (sym c.index.ensures ∙ c.in-Some.is)).1

pub add-requires-clause-room : goal.add-requires-clause-room
add-requires-clause-room c =
    let count = c.sections-number-end.ensures.count ∙ ap (λ (t : Tables). length t.sections) c.tables.ensures in
    omega (arith, answers_counted (tables_of c.args.book.now) c.loop-number.number _ (omega (arith, c.loop-number-test.true, count)) c.loop-number.invariant)

pub unreachable-requires : goal.unreachable-requires
unreachable-requires c =
    let tables = tables_of c.args.book.now in
    let n = c.loop-number.number in
    let count = c.sections-number-end.ensures.count ∙ ap (λ (t : Tables). length t.sections) c.tables.ensures in
    let there : n < length tables.sections = omega (arith, c.loop-number-test.true, count) in
    none_missing tables n there c.in_ok-answers.answers.items c.in_ok-answers.ensures _ (λ a is. c.in_default.not-Some a (c.index.ensures ∙ is))
