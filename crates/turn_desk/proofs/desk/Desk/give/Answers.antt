use Rattle.std.proofs.Common.{ℕ, List, sym, ap, ◌∙◌, subst}
use Rattle.turn_desk.specs.Journal.{AddsOwn}
use Rattle.turn_desk.specs.Known.{Known}
use Rattle.turn_desk.proofs.Passes.{pass_given}
use Rattle.turn_desk.proofs.desk.Desk.give.Goals as goal

pub invariant_of-pass : goal.invariant_of-pass
invariant_of-pass g c =
    let kept = g.V.Kept in
    let s = c.pass.inside.seat in
    let number = sym (ap (λ (k : Known g.row.V-Entry.Denot). k.number) c.pass.view_is) ∙ c.pass.invariant.number_is in
    let seen = sym (ap (λ (k : Known g.row.V-Entry.Denot). k.seen) c.pass.view_is) in
    let log = ap kept.entries (sym c.into_value-value.ensures) in
    let adds = subst (λ (z : ℕ × List g.row.V-Entry.Denot × List g.row.V-Entry.Denot). AddsOwn kept.pass_of z.0 z.1
    z.2) (λ i. (number i, seen i, log i)) c.requires.own in
    pass_given kept.pass_of kept.issued_by kept.is_legal g.met.V.Kept.longer_issues_no_fewer s.me
    c.give_back.new.seat.me c.pass.inside.number _ _ c.give_back.ensures.given.1 adds
    c.learn_legal.ensures c.pass.invariant
