use Rattle.turn_desk.proofs.Drawing.{new_passes-order}
use Rattle.turn_desk.proofs.laws.new_passes_stand_in_order.Goals as goal

pub returns : goal.returns
returns g c = λ desk seen first count. new_passes-order desk seen first count
