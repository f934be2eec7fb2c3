use Rattle.std.proofs.Common.{refl, ap, ◌∙◌, get_or}
use Rattle.std.proofs.lemmas.List.{get_or_default}
use Rattle.std.proofs.lemmas.List.Elements.{All-set}
use Rattle.std.proofs.lemmas.Result.{on_ok_weaker}
use Rattle.session_run.specs.declared.ahead.Ahead.{Ahead}
use Rattle.session_run.specs.Ahead.{IsAhead}
use Rattle.section_worker.proofs.Keeps.{agrees}
use Rattle.session_run.proofs.AnsweredAhead.{shown_next, shown_kept, answer_now, taken_stays}
use Rattle.session_run.proofs.alone.done_now.Goals as goal

pub returns-then-is_of-clause-done : goal.returns-then-is_of-clause-done
returns-then-is_of-clause-done c =
    let all = c.args.ahead.now in
    let place = c.args.place in
    let one = c.index-ahead-place-then-is_of.result in
    let same = get_or_default all place one c.index-ahead-place.result c.if-place-ahead.true in
    answer_now c.args.book.now (get_or all place one).reading (c.requires.ahead place one c.if-place-ahead.true).shown
    c.args.reading c.taken_in.result
    (ap (λ (a : Ahead). a.reading.cut.section.name) same ∙ c.is_of.ensures.name c.if-is_of.true)
    (ap (λ (a : Ahead). a.reading.at) same ∙ c.is_of.ensures.at c.if-is_of.true) c.taken_in.ensures.answer

pub returns-then-is_of-clause-kept : goal.returns-then-is_of-clause-kept
returns-then-is_of-clause-kept c =
    let one = c.index-ahead-place-then-is_of.result in
    on_ok_weaker c.taken_in.result
    (λ rows. shown_kept c.args.book.now (get_or c.args.ahead.now c.args.place one).reading
    (c.requires.ahead c.args.place one c.if-place-ahead.true).shown c.args.worker.now c.taken_in.new.worker rows
    c.requires.kept)
    c.taken_in.ensures.keeps

pub returns-then-is_of-clause-ahead : goal.returns-then-is_of-clause-ahead
returns-then-is_of-clause-ahead c =
    let one = c.index-ahead-place-then-is_of.result in
    let left = taken_stays c.args.book.now (get_or c.args.ahead.now c.args.place one) c.taken_in.new.self
    c.taken_in.ensures.reading c.taken_in.ensures.gone (c.requires.ahead c.args.place one c.if-place-ahead.true) in
    on_ok_weaker c.taken_in.result
    (λ _. All-set (IsAhead c.args.book.now) c.args.ahead.now c.args.place c.taken_in.new.self left c.requires.ahead)
    c.taken_in.ensures.keeps

pub answered-requires : goal.answered-requires
answered-requires c =
    agrees c.args.worker.now c.args.book.now _ c.args.reading.cut c.journal-found.ensures.is_journal.legal
    c.requires.next.reading c.requires.kept

pub returns-clause-done : goal.returns-clause-done
returns-clause-done c =
    answer_now c.args.book.now c.args.reading
    (shown_next c.args.book.now c.args.reading c.journal-found.ensures.is_journal.legal c.requires.next)
    c.args.reading c.answered.result refl refl c.answered.ensures.answer

pub returns-clause-kept : goal.returns-clause-kept
returns-clause-kept c =
    on_ok_weaker c.answered.result
    (λ rows. shown_kept c.args.book.now c.args.reading
    (shown_next c.args.book.now c.args.reading c.journal-found.ensures.is_journal.legal c.requires.next)
    c.args.worker.now c.answered.new.worker rows c.requires.kept)
    c.answered.ensures.keeps
