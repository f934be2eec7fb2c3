use Rattle.std.proofs.Common.{◌≡◌, Ok, inl, refl, subst}
use Rattle.std.proofs.lemmas.Result.{err_from_is_err_and}
use Rattle.plan_model.specs.Board.{IsCall, CountsNext}
use Rattle.plan_model.specs.Outcome.{ReadsTo}
use Rattle.section_worker.specs.Keeping.{Working}
use Rattle.section_worker.specs.Turn.{Rests}
use Rattle.section_worker.proofs.Keeps.{still_kept}
use Rattle.section_worker.proofs.Turns.{seen_found, seen_read, turns_later, rests}
use Rattle.section_worker.proofs.worker.Worker.turn.Goals as goal

pub returns-in_err-reading-clause-kept : goal.returns-in_err-reading-clause-kept
returns-in_err-reading-clause-kept g c =
    let a = g.B.Board.access c.args.board.now in
    let new = g.B.Board.access c.read_next.new.self in
    still_kept c.args.self.now a.numbers a.seen new.seen
    (seen_found (λ found seen. seen ≡ found) a new c.in_err-reading.ensures.call c.in_err-reading.ensures.call.does)
    c.requires

pub work-requires-clause-kept : goal.work-requires-clause-kept
work-requires-clause-kept g c κs within =
    let a = g.B.Board.access c.args.board.now in
    let new = g.B.Board.access c.read_next.new.self in
    still_kept c.args.self.now a.numbers a.seen new.seen
    (seen_read g.B.Read.Rows.shown c.self.inside.share c.self.inside.of c.in_ok-reading.field-0 a new
    c.in_ok-reading.ensures.call) c.requires

pub returns-in-Reading-clause-turn : goal.returns-in-Reading-clause-turn
returns-in-Reading-clause-turn g c =
    let a = g.B.Board.access c.args.board.now in
    let mid = g.B.Board.access c.read_next.new.self in
    let call = c.in_ok-reading.ensures.call in
    turns_later c.args.self.now c.work.new.self a mid (g.B.Board.access c.work.new.board)
    (seen_read g.B.Read.Rows.shown c.self.inside.share c.self.inside.of c.in_ok-reading.field-0 a mid call)
    call.before call.same_pass call.same_numbers c.work.result c.work.ensures.turn

pub returns-in-Idle-clause-kept : goal.returns-in-Idle-clause-kept
returns-in-Idle-clause-kept g c =
    let a = g.B.Board.access c.args.board.now in
    let new = g.B.Board.access c.read_next.new.self in
    still_kept c.args.self.now a.numbers a.seen new.seen
    (seen_read g.B.Read.Rows.shown c.self.inside.share c.self.inside.of c.in_ok-reading.field-0 a new
    c.in_ok-reading.ensures.call) c.requires

pub returns-in_err-reading-clause-turn : goal.returns-in_err-reading-clause-turn
returns-in_err-reading-clause-turn g c =
    let a = g.B.Board.access c.args.board.now in
    let new = g.B.Board.access c.read_next.new.self in
    let p = err_from_is_err_and c.from_residual.result c.from_residual.ensures.1 in
    rw p.1
    (inl record {
      goes_on = seen_found (λ found seen. seen ≡ found) a new c.in_err-reading.ensures.call
          c.in_err-reading.ensures.call.does;
      counts = c.in_err-reading.ensures.counts;
      keeps = refl;
    })

pub returns-in-Idle-clause-turn : goal.returns-in-Idle-clause-turn
returns-in-Idle-clause-turn g c =
    let a = g.B.Board.access c.args.board.now in
    let new = g.B.Board.access c.read_next.new.self in
    let i = c.self.inside in
    let w : Working = record { share = i.share; of = i.of; actor = i.actor; kept = i.kept.entries } in
    let shown = g.B.Read.Rows.shown in
    subst (λ x. Rests x x a new c.in-Idle.left) c.self.view_is
    (rests shown w c.in-Idle.left a new
    (subst (λ n. IsCall (λ found seen. ReadsTo shown i.share i.of found n seen) a new) c.in-Idle.is
    c.in_ok-reading.ensures.call)
    (subst (λ n. CountsNext (Ok n) a new) c.in-Idle.is c.in_ok-reading.ensures.counts))
