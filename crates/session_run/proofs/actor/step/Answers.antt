use Rattle.std.proofs.Common.{false, Ok, sym, ap, ◌∙◌}
use Rattle.turn_desk.proofs.Drawing.{on_err}
use Rattle.session_run.proofs.Acting.{last_step}
use Rattle.session_run.proofs.Working.{planner_at_work}
use Rattle.session_run.proofs.actor.step.Goals as goal

pub returns-in_err-stepped-clause-err : goal.returns-in_err-stepped-clause-err
returns-in_err-stepped-clause-err g c =
    on_err c.from_residual.result
    (planner_at_work c.args.planner (g.B.Board.access c.args.board.now) (g.B.Board.access c.step.new.self) c.step.result false false c.requires
    c.step.ensures.call (λ no. absurd (cc)))

pub returns-clause-ok : goal.returns-clause-ok
returns-clause-ok g c =
    planner_at_work c.args.planner (g.B.Board.access c.args.board.now) (g.B.Board.access c.step.new.self) c.step.result false c.has_ended.result c.requires
    c.step.ensures.call (λ is. c.in_ok-stepped.was ∙ ap Ok (last_step c.in_ok-stepped.stepped (sym c.has_ended.ensures ∙ is)))
