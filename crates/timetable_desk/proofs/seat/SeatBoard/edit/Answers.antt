use Rattle.plan_model.specs.Board.{Gives}
use Rattle.plan_model.specs.Outcome.{EditsTo}
use Rattle.plan_model.proofs.Adding.{gives_adds, edit_adds}
use Rattle.timetable_desk.proofs.Turning.{issued_then, own_then, seat_call}
use Rattle.timetable_desk.proofs.seat.SeatBoard.edit.Goals as goal

pub edit-edited-requires : goal.edit-edited-requires
edit-edited-requires g c = issued_then c.take-turn.ensures.goes_on c.value_mut.ensures.value c.number-who.ensures.below

pub give-requires-clause-own : goal.give-requires-clause-own
give-requires-clause-own g c =
    let who = c.number-who.result in
    let t = c.take-turn.ensures in
    own_then c.number-who.ensures.number t.pass t.seen c.value_mut.ensures.value
    (gives_adds who _ _ (EditsTo who 0 c.args.edit) c.edit-edited.result (edit_adds who _ _ 0 c.args.edit) c.edit-edited.ensures)

pub returns-clause-call : goal.returns-clause-call
returns-clause-call g c =
    let s = c.self.inside in
    let n = c.number-who.ensures in
    let m = c.number-left.ensures in
    let t = c.take-turn.ensures in
    seat_call (λ k. Gives (EditsTo k 0 c.args.edit) c.edit-edited.result) record { pass = s.pass; readings = s.readings; handed = s.handed }
    record { pass = c.give.new.pass; readings = s.readings; handed = s.handed } _ c.self.view_is n.number n.own n.below n.legal
    t.pass t.goes_on t.legal c.value_mut.ensures.value c.edit-edited.ensures c.give.ensures m.number m.own m.below m.legal
