use Rattle.capacity_cmd.proofs.AllLeft.{ends_on_all}
use Rattle.capacity_cmd.proofs.laws.ends_on_all_left.Goals as goal

pub returns : goal.returns
returns g c = λ command before after outcome left told is. ends_on_all command _ outcome left told is
