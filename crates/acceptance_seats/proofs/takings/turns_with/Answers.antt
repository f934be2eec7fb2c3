use Rattle.acceptance_seats.proofs.Keeping.{kept_through}
use Rattle.acceptance_seats.proofs.Starting.{zero_issued}
use Rattle.acceptance_seats.proofs.takings.turns_with.Goals as goal

pub new-requires : goal.new-requires
new-requires g c = zero_issued c.args.book.now

pub turned-requires-2-after_bounds : goal.turned-requires-2-after_bounds
turned-requires-2-after_bounds g c κs within =
    kept_through c.turned.new.worker _ _ _ _ c.in_ok-edited.ensures c.turned.ensures
