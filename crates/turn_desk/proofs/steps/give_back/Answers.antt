use Rattle.std.proofs.Common.{rules}
use Rattle.turn_desk.proofs.Turns.{giving_after}
use Rattle.turn_desk.proofs.steps.give_back.Goals as goal

pub store-requires : goal.store-requires
store-requires g c = let kept = g.V.Kept in let seat = c.exchange-left.new.seat in (
  search rules,
  search rules,
  giving_after kept.entries kept.pass_of kept.issued_by kept.is_legal g.met.V.Kept.longer_issues_no_fewer
      c.args.shared.now.table_id.slots seat.id c.args.seat.now.me seat.me c.args.number c.args.value
      c.exchange-left.ensures.3 c.requires.holds.1 c.requires.holds.0 c.requires.number c.requires.own
      c.requires.legal,
)
