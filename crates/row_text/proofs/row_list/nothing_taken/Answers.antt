use Rattle.std.proofs.Common.{refl}
use Rattle.row_text.proofs.Taken.{HasTaken-none}
use Rattle.row_text.proofs.row_list.nothing_taken.Goals as goal

pub returns : goal.returns
returns c = HasTaken-none _ refl c.in_ok-places.ensures.cuts c.in_ok-places.ensures.ends
