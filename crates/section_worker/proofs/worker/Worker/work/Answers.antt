use Rattle.std.proofs.Common.{◌≡◌, ap, ◌∙◌}
use Rattle.std.proofs.lemmas.Result.{err_from_is_err_and}
use Rattle.section_worker.proofs.Readings.{done_later}
use Rattle.section_worker.proofs.Keeps.{agrees, forget_then, keeps_less, still_kept}
use Rattle.section_worker.proofs.Turns.{goes_nowhere, fails, answered, kept_then, seen_found}
use Rattle.section_worker.proofs.worker.Worker.work.Goals as goal

pub answer-requires : goal.answer-requires
answer-requires g c =
    agrees c.args.self.now (g.B.Board.access c.args.board.now).seen _ (g.B.Read.Rows.shown c.args.reading).cut
    c.requires.access.seen.legal c.requires.next.reading c.requires.kept

pub returns-in_err-answer-clause-turn : goal.returns-in_err-answer-clause-turn
returns-in_err-answer-clause-turn g c =
    let a = g.B.Board.access c.args.board.now in
    let p = err_from_is_err_and c.from_residual.result c.from_residual.ensures.1 in
    rw p.1 (fails c.args.self.now c.answer.new.self a a (g.B.Read.Rows.shown c.args.reading) c.requires.access
    c.requires.next
    (goes_nowhere a.numbers a.seen) c.in_err-answer.ensures.err)

pub publish-requires : goal.publish-requires
publish-requires g c =
    let r = c.in_ok-answer.ensures.reading in
    done_later c.args.self.now.share c.args.self.now.of (g.B.Board.access c.args.board.now).seen
    (g.B.Read.Rows.shown c.args.reading)
    (g.B.Read.Rows.shown c.answer.new.reading) c.in_ok-answer.answer c.requires.next r.cut r.at
    c.in_ok-answer.ensures.answer

pub returns-in-Ok-clause-turn : goal.returns-in-Ok-clause-turn
returns-in-Ok-clause-turn g c =
    let a = g.B.Board.access c.args.board.now in
    let new = g.B.Board.access c.publish.new.board in
    answered c.args.self.now c.answer.new.self a new (g.B.Read.Rows.shown c.args.reading) c.requires.access
    c.requires.next
    (g.B.Read.Rows.shown c.answer.new.reading) c.in_ok-answer.answer c.in_ok-answer.ensures.reading c.in-Ok.turned
    c.in_ok-answer.ensures.ok c.in-Ok.ensures.call c.in-Ok.ensures.counts

pub returns-in-Ok-clause-kept : goal.returns-in-Ok-clause-kept
returns-in-Ok-clause-kept g c =
    let a = g.B.Board.access c.args.board.now in
    let new = g.B.Board.access c.publish.new.board in
    kept_then c.args.self.now c.answer.new.self a new (g.B.Read.Rows.shown c.args.reading) c.requires.access
    c.requires.next
    (g.B.Read.Rows.shown c.answer.new.reading) c.in_ok-answer.answer c.in_ok-answer.ensures.reading c.in-Ok.turned
    c.in_ok-answer.ensures.ok c.requires.kept c.in-Ok.ensures.call

pub returns-in-Err-clause-turn : goal.returns-in-Err-clause-turn
returns-in-Err-clause-turn g c =
    let a = g.B.Board.access c.args.board.now in
    let new = g.B.Board.access c.publish.new.board in
    let shown = g.B.Read.Rows.shown c.args.reading in
    let r = c.in_ok-answer.ensures.reading in
    fails c.args.self.now c.forget.new.self a new shown c.requires.access c.requires.next
    (seen_found (λ found seen. seen ≡ found) a new c.in-Err.ensures.call c.in-Err.ensures.call.does)
    (forget_then c.section.result.now.name shown.cut shown.at c.args.self.now c.answer.new.self c.forget.new.self
    (ap (λ s. s.name) (c.section.ensures ∙ ap (λ x. x.section) r.cut)) c.in_ok-answer.ensures.ok
    c.forget.ensures.forgets)

pub returns-in-Err-clause-kept : goal.returns-in-Err-clause-kept
returns-in-Err-clause-kept g c =
    let a = g.B.Board.access c.args.board.now in
    let new = g.B.Board.access c.publish.new.board in
    let shown = g.B.Read.Rows.shown c.args.reading in
    let r = c.in_ok-answer.ensures.reading in
    keeps_less shown.cut.section.name c.args.self.now c.forget.new.self new.seen
    (forget_then c.section.result.now.name shown.cut shown.at c.args.self.now c.answer.new.self c.forget.new.self
    (ap (λ s. s.name) (c.section.ensures ∙ ap (λ x. x.section) r.cut)) c.in_ok-answer.ensures.ok
    c.forget.ensures.forgets)
    (still_kept c.args.self.now a.numbers a.seen new.seen
    (seen_found (λ found seen. seen ≡ found) a new c.in-Err.ensures.call c.in-Err.ensures.call.does) c.requires.kept)
