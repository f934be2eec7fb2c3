use Rattle.cycle_time.proofs.SomeAnswer.{answer_is_there}
use Rattle.cycle_time.proofs.laws.answer_is_there.Goals as goal

pub returns : goal.returns
returns c = answer_is_there
