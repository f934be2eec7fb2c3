use Rattle.made_line.proofs.HowMany.{length_base}
use Rattle.capacity_cmd.proofs.MadeContent.{made_says}
use Rattle.capacity_cmd.proofs.laws.made_text_says.Goals as goal

pub returns : goal.returns
returns c = record { says = made_says c.args.n; at = length_base c.args.n }
