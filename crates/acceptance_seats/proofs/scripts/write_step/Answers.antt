use Rattle.acceptance_seats.proofs.Starting.{zero_issued}
use Rattle.acceptance_seats.proofs.scripts.write_step.Goals as goal

pub new-board-requires : goal.new-board-requires
new-board-requires g c = zero_issued c.args.book.now
