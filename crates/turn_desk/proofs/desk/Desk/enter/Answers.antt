use Rattle.std.proofs.Common.{◌≡◌, ◌+◌, ◌≤◌, ap, ◌∙◌, arith}
use Rattle.turn_desk.specs.declared.kept.TheConstants.{MOST_PASSES}
use Rattle.turn_desk.specs.Seats.{known}
use Rattle.turn_desk.proofs.Drawing.{on_err, enters_all, enters_some}
use Rattle.turn_desk.proofs.desk.Desk.enter.Goals as goal

pub returns-clause-ok : goal.returns-clause-ok
returns-clause-ok g c =
    let kept = g.V.Kept in
    let took = c.take-turn in
    let did = took.ensures in
    let log = kept.entries took.result in
    let first : c.issued-first.result ≡ kept.issued_by log =
    c.issued-first.ensures.number ∙ ap (λ v. kept.issued_by (kept.entries v)) c.value.ensures in
    let room : kept.issued_by log + c.args.count ≤ MOST_PASSES = omega arith in
    enters_all kept.pass_of kept.issued_by c.args.pass.now took.new.pass (known c.pass.inside.seat)
    (known c.draw_all.new.seat) log did.pass did.goes_on did.seen c.pass.view_is c.args.count _ room
    c.in_ok-draw_all.ensures.drawn

pub returns-in_err-draw_all-clause-err : goal.returns-in_err-draw_all-clause-err
returns-in_err-draw_all-clause-err g c =
    let kept = g.V.Kept in
    let took = c.take-turn in
    let did = took.ensures in
    let log = kept.entries took.result in
    on_err c.from_residual.result (enters_some kept.pass_of kept.issued_by c.args.pass.now took.new.pass
    (known c.pass.inside.seat) (known c.draw_all.new.seat) log did.pass did.goes_on did.seen c.pass.view_is
    c.args.count (ap (λ k. k.numbers) c.in_err-draw_all.ensures.given) c.pass.invariant.issued
    c.in_err-draw_all.ensures.drawn)
