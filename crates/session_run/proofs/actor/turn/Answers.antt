use Rattle.std.proofs.Common.{false, sym, ◌∙◌}
use Rattle.turn_desk.proofs.Drawing.{on_err}
use Rattle.session_run.proofs.Acting.{worker_at_work}
use Rattle.session_run.proofs.actor.turn.Goals as goal

pub returns-in_err-turned-clause-err : goal.returns-in_err-turned-clause-err
returns-in_err-turned-clause-err g c =
    on_err c.from_residual.result
    (worker_at_work c.args.worker.now c.turn.new.self (g.B.Board.access c.args.board.now) (g.B.Board.access c.turn.new.board) false c.requires.at_work
    c.turn.result false c.turn.ensures.turn c.turn.ensures.board (λ no. absurd (cc)))

pub returns-clause-ok : goal.returns-clause-ok
returns-clause-ok g c =
    worker_at_work c.args.worker.now c.turn.new.self (g.B.Board.access c.args.board.now) (g.B.Board.access c.turn.new.board) false c.requires.at_work
    c.turn.result c.rests.result c.turn.ensures.turn c.turn.ensures.board
    (λ is. (c.in_ok-turned.turned, c.in_ok-turned.was, sym c.rests.ensures ∙ is))
