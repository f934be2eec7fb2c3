use Rattle.plan_model.specs.Board.{Gives}
use Rattle.plan_model.specs.Outcome.{EditsTo}
use Rattle.plan_model.proofs.Adding.{gives_adds, edit_adds, board_calls}
use Rattle.acceptance_seats.proofs.boards.edited.Goals as goal

pub returns : goal.returns
returns g c =
    let a = g.B.Board.access c.args.board.now in
    let does = EditsTo a.pass 0 c.args.edit in
    board_calls (Gives does c.edit.result) a (g.B.Board.access c.edit.new.self)
    (λ found after. gives_adds a.pass found after does c.edit.result (edit_adds a.pass found after 0 c.args.edit))
    c.edit.ensures.call
