use Rattle.std.proofs.Common.{ℕ, ◌<◌, ◌≤◌, length, get_or}
use Rattle.plan_model.specs.Members.{no_use}
use Rattle.train_net.proofs.near.uses_of_connections.Given as goal

-- from here on all uses are of connections
abbrev pub invariant-loop-from : goal.invariant-loop-from
invariant-loop-from l = record {
  within : l.from ≤ length l.uses;
  connections : (k : ℕ) → l.from ≤ k → k < length l.uses → l.blocks ≤ (get_or l.uses k no_use).block;
}

abbrev pub decreases-loop-from : goal.decreases-loop-from
decreases-loop-from l = l.from
