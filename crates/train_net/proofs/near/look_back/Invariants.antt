use Rattle.std.proofs.Common.{◌≡◌, ◌<◌, ◌≤◌, ℕ, length}
use Rattle.std.specs.Prelude.{None, slice_index, slice_index_or}
use Rattle.std.specs.Option.{IsSome}
use Rattle.plan_model.specs.Members.{place_count}
use Rattle.train_net.specs.Near.{IsNearFrom}
use Rattle.train_net.proofs.near.look_back.Given as goal

-- the table has who is found from a position on, and somebody at the first places that are wanted
abbrev pub invariant-loop-from : goal.invariant-loop-from
invariant-loop-from l = record {
  within : l.from ≤ l.at;
  count : length l.near ≡ place_count l.cut;
  all : (place : ℕ) → place < place_count l.cut
      → IsNearFrom l.cut l.order l.from l.at place (slice_index_or l.near place None);
  reached : l.found ≤ length l.wanted;
  found : (k : ℕ) → k < l.found → IsSome (slice_index_or l.near (slice_index l.wanted k) None);
}

abbrev pub decreases-loop-from : goal.decreases-loop-from
decreases-loop-from l = l.from
