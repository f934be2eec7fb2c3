use Rattle.turn_desk.proofs.Drawing.{same_desk}
use Rattle.turn_desk.proofs.laws.numbers_tell_desks.Goals as goal

pub returns : goal.returns
returns c = same_desk
