use Rattle.std.proofs.Common.{ℕ, ◌<◌, ◌≤◌, length}
use Rattle.std.specs.Prelude.{slice_index}
use Rattle.train_net.proofs.near.blocks_end.Given as goal

-- from the end on all places are of connections
abbrev pub invariant-loop-end : goal.invariant-loop-end
invariant-loop-end l = record {
  within : l.«end» ≤ length l.places;
  connections : (k : ℕ) → l.«end» ≤ k → k < length l.places → l.blocks ≤ slice_index l.places k;
}

abbrev pub decreases-loop-end : goal.decreases-loop-end
decreases-loop-end l = l.«end»
