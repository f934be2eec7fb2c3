use Rattle.std.proofs.Common.{ℕ, ◌<◌, ◌≤◌, length, slice_index}
use Rattle.train_order.proofs.ring.least_place.Given as goal

-- the first least of the members so far
abbrev pub invariant-loop-k : goal.invariant-loop-k
invariant-loop-k l = record {
  within : l.least < length l.members;
  least : (at : ℕ) → at < l.k → slice_index l.members l.least ≤ slice_index l.members at;
  first : (at : ℕ) → at < l.least → slice_index l.members l.least < slice_index l.members at;
}
