use Rattle.std.proofs.Common.{rules}
use Rattle.turn_desk.proofs.Turns.{taking, in_front}
use Rattle.turn_desk.proofs.steps.try_turn.Goals as goal

pub compare_exchange-requires : goal.compare_exchange-requires
compare_exchange-requires g c = let kept = g.V.Kept in
    let seat = c.args.seat.now in (
      search rules,
      search rules,
      taking kept.entries kept.pass_of kept.issued_by kept.is_legal
          g.met.V.Kept.longer_issues_no_fewer c.args.shared.now.table_id.slots seat.id seat.me c.requires.idle.0,
    )

pub exchange-requires : goal.exchange-requires
exchange-requires g c = let won = c.compare_exchange.ensures.2.0 c.if-compare_exchange-ne0.false in
    (search rules, (_, in_front _ _ _ won.2))
