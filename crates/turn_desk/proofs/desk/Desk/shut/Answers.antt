use Rattle.std.proofs.Common.{sym, ap, ◌∙◌}
use mathlib.Core.Option.{some-injective}
use Rattle.turn_desk.specs.Known.{Known}
use Rattle.turn_desk.specs.Steps.{Mine}
use Rattle.turn_desk.proofs.Turns.{empty_home}
use Rattle.turn_desk.proofs.desk.Desk.shut.Goals as goal

pub unreachable-requires : goal.unreachable-requires
unreachable-requires g c =
    let kept = g.V.Kept in
    let shut = c.shut_down.ensures.shut in
    let me = λ (m : Mine g.row.V.Denot g.row.V-Entry.Denot). m.0.holds in
    let on = ap me shut.1 ∙ (ap (λ (k : Known g.row.V-Entry.Denot). k.holds) c.into_seat-seat.ensures.known
    ∙ c.requires.holds) in
    let closes = ap (λ (m : Mine g.row.V.Denot g.row.V-Entry.Denot). m.0.closes) shut.1 in
    let empty = empty_home kept.entries kept.pass_of kept.issued_by kept.is_legal g.met.V.Kept.longer_issues_no_fewer
    _ _ _ _ on closes c.close_with-closed.ensures.values.2 in
    c.in_default.not-None (some-injective _ _ (sym c.take-left.ensures.value ∙ empty))
