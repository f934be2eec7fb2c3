use Rattle.compression.proofs.SomeAnswer as SomeAnswer
use Rattle.compression.proofs.laws.answer_is_there.Goals as goal

pub returns : goal.returns
returns c = SomeAnswer.answer_is_there
