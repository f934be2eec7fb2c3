-- The trains of a compressed timetable, by position.
use Rattle.std.specs.Prelude.{ℕ, pos, List, []}
use Rattle.plan_model.specs.declared.answer.Tie.TheVariants.{Start}
use Rattle.plan_model.specs.declared.answer.Placed.{Placed}
use Rattle.plan_model.specs.declared.train_numbers.TrainNumbers.{TrainNumbers}

-- stands where there is no train
abbrev pub no_train : Placed
no_train = record { train = []; planned = pos 0; entry = pos 0; tie = Start }

-- the train of a name and of the numbers beside it
abbrev pub with_name : List ℕ → TrainNumbers → Placed
with_name name n = record { train = name; planned = n.planned; entry = n.entry; tie = n.tie }
