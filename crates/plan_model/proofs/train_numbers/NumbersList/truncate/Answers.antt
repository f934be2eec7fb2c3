use Rattle.std.proofs.Common.{rules}
use Rattle.std.proofs.lemmas.List.{take-map}
use Rattle.plan_model.proofs.train_numbers.NumbersList.truncate.Goals as goal
use Rattle.plan_model.proofs.train_numbers.NumbersList.truncate.Goals.{in-Short, in-Long}

pub returns : goal.returns
returns c = elim c.match-self.branch [ in-Short w ↦ search (rules, take-map) | in-Long w ↦ search rules ]
