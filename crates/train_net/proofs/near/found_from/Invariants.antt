use Rattle.std.proofs.Common.{ℕ, ◌-◌, ◌<◌, ◌≤◌, length}
use Rattle.std.specs.Prelude.{None, slice_index, slice_index_or}
use Rattle.std.specs.Option.{IsSome}
use Rattle.train_net.proofs.near.found_from.Given as goal

-- somebody is found at each place so far
abbrev pub invariant-loop-at : goal.invariant-loop-at
invariant-loop-at l = record {
  from_on : l.from ≤ l.at;
  within : l.at ≤ length l.wanted;
  found : (k : ℕ) → l.from ≤ k → k < l.at → IsSome (slice_index_or l.near (slice_index l.wanted k) None);
}

abbrev pub decreases-loop-at : goal.decreases-loop-at
decreases-loop-at l = length l.wanted - l.at
