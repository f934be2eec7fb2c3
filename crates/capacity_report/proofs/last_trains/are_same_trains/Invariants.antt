use Rattle.std.proofs.Common.{◌≡◌, ℕ, ◌<◌, get_or}
use Rattle.plan_model.specs.PlacedList.{no_train}
use Rattle.capacity_report.proofs.last_trains.are_same_trains.Given as goal

abbrev pub invariant-loop-i : goal.invariant-loop-i
invariant-loop-i l = (k : ℕ) → k < l.i → (get_or l.trains k no_train).train ≡ (get_or l.last k no_train).train
