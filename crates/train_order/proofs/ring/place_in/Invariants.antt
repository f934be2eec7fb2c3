use Rattle.std.proofs.Common.{◌≢◌, ℕ, ◌<◌, slice_index}
use Rattle.train_order.proofs.ring.place_in.Given as goal

abbrev pub invariant-loop-k : goal.invariant-loop-k
invariant-loop-k l = (at : ℕ) → at < l.k → slice_index l.walk at ≢ l.member
