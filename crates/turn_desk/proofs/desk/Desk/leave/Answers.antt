use Rattle.std.proofs.Common.{subst}
use Rattle.turn_desk.specs.Known.{Known, HaveNoCommonNumber}
use Rattle.turn_desk.proofs.Passing.{pass_joined}
use Rattle.turn_desk.proofs.desk.Desk.leave.Goals as goal

pub invariant_of-pass : goal.invariant_of-pass
invariant_of-pass g c =
    let kept = g.V.Kept in
    let did = c.join_one.ensures in
    pass_joined kept.entries kept.pass_of kept.issued_by kept.is_legal g.met.V.Kept.longer_issues_no_fewer
    c.pass.inside.seat.me c.into_seat.result.me c.join_one.new.seat.me c.pass.inside.number
    c.args.other.number did.joined did.agree c.pass.invariant c.into_seat.ensures.pass

pub returns-clause-apart : goal.returns-clause-apart
returns-clause-apart g c =
    let Both : Type 0 = Known g.row.V-Entry.Denot × Known g.row.V-Entry.Denot in
    subst (λ (z : Both). HaveNoCommonNumber z.0 z.1) (λ i. (c.pass.view_is i, c.into_seat.ensures.known i))
    c.join_one.ensures.apart
