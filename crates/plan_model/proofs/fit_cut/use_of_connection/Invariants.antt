use Rattle.std.proofs.Common.{◌≢◌, ℕ, ◌<◌, ◌≤◌, length, get_or}
use Rattle.plan_model.specs.Members.{no_use}
use Rattle.plan_model.proofs.fit_cut.use_of_connection.Given as goal

-- no use from the place on is of the connection
abbrev pub invariant-loop-left : goal.invariant-loop-left
invariant-loop-left l = record {
  within : l.left ≤ length l.uses;
  none : (k : ℕ) → l.left ≤ k → k < length l.uses → (get_or l.uses k no_use).block ≢ l.place;
}

abbrev pub decreases-loop-left : goal.decreases-loop-left
decreases-loop-left l = l.left
