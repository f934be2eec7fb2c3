use Rattle.std.proofs.Common.{sym, subst}
use Rattle.turn_desk.specs.Journal.{AddsOwn}
use Rattle.turn_desk.proofs.Passes.{pass_given, pass_drawn}
use Rattle.turn_desk.proofs.drawn.draw_all.Goals as goal

pub returns-clause-pass : goal.returns-clause-pass
returns-clause-pass g c =
    let kept = g.V.Kept in
    let adds = subst (λ xs. AddsOwn kept.pass_of c.args.number xs (kept.entries c.enter_all-entered.new.value))
    (sym c.requires.found) c.in_ok-entered.ensures.adds_own in
    let seat = c.make_passes.ensures.seat in
    pass_drawn kept.pass_of kept.issued_by kept.is_legal g.met.V.Kept.longer_issues_no_fewer c.give_back.new.seat.me
    c.make_passes.new.seat.me c.args.number seat.0 seat.1 seat.2
    (pass_given kept.pass_of kept.issued_by kept.is_legal g.met.V.Kept.longer_issues_no_fewer c.args.seat.now.me
    c.give_back.new.seat.me c.args.number _ _ c.give_back.ensures.given.1 adds
    c.learn_legal.ensures c.requires.pass)
