use Rattle.std.proofs.Common.{rules}
use Rattle.turn_desk.proofs.Passing.{splitting}
use Rattle.turn_desk.proofs.steps.new_seat.Goals as goal

pub split_seat-requires : goal.split_seat-requires
split_seat-requires g c = let kept = g.V.Kept in let seat = c.args.seat.now in (
  search rules,
  search rules,
  splitting kept.entries kept.pass_of kept.issued_by kept.is_legal g.met.V.Kept.longer_issues_no_fewer seat.id
      seat.me.0 c.requires.drawn,
)
