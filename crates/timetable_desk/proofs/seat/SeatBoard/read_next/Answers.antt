use Rattle.std.proofs.Common.{Ok, Err, refl, sym, subst}
use Rattle.std.proofs.lemmas.Result.{err_from_is_err_and}
use Rattle.plan_model.specs.Board.{Gives, IsCall, CountsNext}
use Rattle.plan_model.specs.Outcome.{ReadsTo}
use Rattle.plan_model.proofs.Adding.{none_adds}
use Rattle.timetable_desk.specs.Seat.{Seated, access_of}
use Rattle.timetable_desk.proofs.Turning.{own_then, seat_call, counts_next}
use Rattle.timetable_desk.proofs.seat.SeatBoard.read_next.Goals as goal

pub give-requires-clause-own : goal.give-requires-clause-own
give-requires-clause-own g c =
    let t = c.take-turn.ensures in
    own_then c.number-who.ensures.number t.pass t.seen refl (none_adds _ c.take-turn.result c.take-turn.result refl)

pub returns-in_err-next-clause-call : goal.returns-in_err-next-clause-call
returns-in_err-next-clause-call g c =
    let s = c.self.inside in
    let n = c.number-who.ensures in
    let m = c.number-left.ensures in
    let t = c.take-turn.ensures in
    let later : Seated = record { pass = c.give.new.pass; readings = s.readings; handed = s.handed } in
    let p = err_from_is_err_and c.from_residual.result c.from_residual.ensures.1 in
    let seat = c.args.self.now in
    subst (λ r. IsCall (Gives (ReadsTo (λ r. r) c.args.share c.args.of) r) (access_of seat) (access_of later)) (sym p.1)
    (seat_call (λ k. Gives (ReadsTo (λ r. r) c.args.share c.args.of) (Err p.0))
    record { pass = s.pass; readings = s.readings; handed = s.handed } later _ c.self.view_is n.number n.own n.below n.legal
    t.pass t.goes_on t.legal refl refl c.give.ensures m.number m.own m.below m.legal)

pub returns-clause-call : goal.returns-clause-call
returns-clause-call g c =
    let s = c.self.inside in
    let n = c.number-who.ensures in
    let m = c.number-left.ensures in
    let t = c.take-turn.ensures in
    let does = subst (λ j. ReadsTo (λ r. r) c.args.share c.args.of j c.in_ok-next.next j) c.value.ensures c.in_ok-next.ensures in
    seat_call (λ k found after. ReadsTo (λ r. r) c.args.share c.args.of found c.in_ok-next.next after)
    record { pass = s.pass; readings = s.readings; handed = s.handed }
    record { pass = c.give.new.pass; readings = c.counted-self-inside.result; handed = s.handed } _ c.self.view_is
    n.number n.own n.below n.legal t.pass t.goes_on t.legal refl does c.give.ensures m.number m.own m.below m.legal

pub returns-clause-counts : goal.returns-clause-counts
returns-clause-counts g c =
    let s = c.self.inside in
    let old : Seated = record { pass = s.pass; readings = s.readings; handed = s.handed } in
    let later : Seated = record { pass = c.give.new.pass; readings = c.counted-self-inside.result; handed = s.handed } in
    subst (λ x. CountsNext (Ok c.in_ok-next.next) (access_of x) (access_of later)) c.self.view_is
    (counts_next c.in_ok-next.next old c.give.new.pass c.counted-self-inside.result c.counted-self-inside.ensures)
