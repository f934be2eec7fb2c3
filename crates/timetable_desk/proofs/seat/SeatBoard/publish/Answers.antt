use Rattle.std.proofs.Common.{Err, sym, ap, subst}
use Rattle.std.proofs.lemmas.Result.{err_from_is_err_and}
use Rattle.plan_model.specs.Board.{Gives, IsCall}
use Rattle.plan_model.specs.Outcome.{IsDone, PublishesTo}
use Rattle.plan_model.proofs.Adding.{gives_adds, publish_adds}
use Rattle.timetable_desk.specs.Seat.{Seated, access_of}
use Rattle.timetable_desk.proofs.Turning.{issued_then, done_then, own_then, seat_call}
use Rattle.timetable_desk.proofs.seat.SeatBoard.publish.Goals as goal

pub publish-published-requires-clause-issued : goal.publish-published-requires-clause-issued
publish-published-requires-clause-issued g c =
    issued_then c.take-turn.ensures.goes_on c.value_mut.ensures.value c.number-who.ensures.below

pub publish-published-requires-clause-done : goal.publish-published-requires-clause-done
publish-published-requires-clause-done g c =
    let pass = c.self.inside.pass in
    let was = subst (λ s. IsDone s.pass.seen c.args.done) (sym c.self.view_is) c.requires.done in
    subst (λ j. IsDone j c.args.done) (sym c.value_mut.ensures.value)
    (done_then c.args.done pass.numbers pass.seen c.take-turn.result c.take-turn.ensures.goes_on c.number-who.ensures.legal was)

pub give-requires-clause-own : goal.give-requires-clause-own
give-requires-clause-own g c =
    let who = c.number-who.result in
    let t = c.take-turn.ensures in
    own_then c.number-who.ensures.number t.pass t.seen c.value_mut.ensures.value
    (gives_adds who _ _ (PublishesTo who c.args.done) c.publish-published.result (publish_adds who _ _ c.args.done)
    c.publish-published.ensures)

pub returns-in_err-published-clause-call : goal.returns-in_err-published-clause-call
returns-in_err-published-clause-call g c =
    let s = c.self.inside in
    let n = c.number-who.ensures in
    let m = c.number-left.ensures in
    let t = c.take-turn.ensures in
    let later : Seated = record { pass = c.give.new.pass; readings = s.readings; handed = s.handed } in
    let p = err_from_is_err_and c.from_residual.result c.from_residual.ensures.1 in
    let seat = c.args.self.now in
    subst (λ r. IsCall (Gives (PublishesTo seat.pass.number c.args.done) r) (access_of seat) (access_of later)) (sym p.1)
    (seat_call (λ k. Gives (PublishesTo k c.args.done) (Err p.0)) record { pass = s.pass; readings = s.readings; handed = s.handed } later
    _ c.self.view_is n.number n.own n.below n.legal t.pass t.goes_on t.legal c.value_mut.ensures.value c.in_err-published.ensures
    c.give.ensures m.number m.own m.below m.legal)

pub returns-clause-call : goal.returns-clause-call
returns-clause-call g c =
    let s = c.self.inside in
    let n = c.number-who.ensures in
    let m = c.number-left.ensures in
    let t = c.take-turn.ensures in
    seat_call (λ k found after. PublishesTo k c.args.done found c.in_ok-published.published after)
    record { pass = s.pass; readings = s.readings; handed = s.handed }
    record { pass = c.give.new.pass; readings = s.readings; handed = c.taken-taken.result } _ c.self.view_is
    n.number n.own n.below n.legal t.pass t.goes_on t.legal c.value_mut.ensures.value c.in_ok-published.ensures
    c.give.ensures m.number m.own m.below m.legal

pub returns-clause-counts : goal.returns-clause-counts
returns-clause-counts g c = record {
  readings = ap (λ s. s.readings) c.self.view_is;
  handed = c.taken-taken.ensures;
}
