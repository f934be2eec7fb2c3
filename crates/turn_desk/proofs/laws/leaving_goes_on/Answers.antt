use Rattle.turn_desk.proofs.Growing.{agreed}
use Rattle.turn_desk.proofs.laws.leaving_goes_on.Goals as goal

pub returns : goal.returns
returns g c = λ k other agree. agreed g.V.Kept.pass_of k.numbers other.numbers k.seen other.seen agree
