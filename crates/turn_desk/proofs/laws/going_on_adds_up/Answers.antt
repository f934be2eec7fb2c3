use Rattle.turn_desk.proofs.Growing.{goes_on-goes_on}
use Rattle.turn_desk.proofs.laws.going_on_adds_up.Goals as goal

pub returns : goal.returns
returns g c = λ numbers seen found log. goes_on-goes_on g.V.Kept.pass_of numbers seen found log
