use Rattle.std.proofs.Common.{rules}
use Rattle.turn_desk.proofs.Turns.{shutting}
use Rattle.turn_desk.proofs.steps.shut_down.Goals as goal

pub store-requires : goal.store-requires
store-requires g c = let kept = g.V.Kept in let seat = c.args.seat.now in (
  search rules,
  search rules,
  shutting kept.entries kept.pass_of kept.issued_by kept.is_legal g.met.V.Kept.longer_issues_no_fewer
      c.args.shared.now.table_id.slots seat.id seat.me c.requires.holds.1 c.requires.holds.0,
)
