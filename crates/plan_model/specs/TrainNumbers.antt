-- What is known of trains beside their names, in its two forms.
use Rattle.std.specs.Prelude.{ℕ, pos, List, map, ◌==◌, if◌then◌else◌}
use Rattle.plan_model.specs.declared.answer.Tie.{Tie}
use Rattle.plan_model.specs.declared.answer.Tie.TheVariants.{Start, After}
use Rattle.plan_model.specs.declared.train_numbers.TheConstants.{NO_TRAIN}
use Rattle.plan_model.specs.declared.train_numbers.TrainNumbers.{TrainNumbers}
use Rattle.plan_model.specs.declared.train_numbers.ShortNumbers.{ShortNumbers}
use Rattle.plan_model.specs.declared.train_numbers.KeptNumbers.{KeptNumbers}
use Rattle.plan_model.specs.declared.train_numbers.KeptNumbers.TheVariants as kept

-- stand where there is no train
abbrev pub no_numbers : TrainNumbers
no_numbers = record { planned = pos 0; entry = pos 0; tie = Start }

-- the tie with the train of a number at a place, or at the window's start
abbrev pub tie_with : ℕ → ℕ → Tie
tie_with train block = if train == NO_TRAIN then Start else After train block

-- the numbers of a train whose short form is this
abbrev pub long_of : ShortNumbers → TrainNumbers
long_of s = record { planned = s.planned; entry = s.entry; tie = tie_with s.train s.block }

-- the numbers that are kept
abbrev pub numbers_in : KeptNumbers → List TrainNumbers
numbers_in (kept.Short list) = map long_of list.items
numbers_in (kept.Long list) = list.items
