use Rattle.std.proofs.Common.{◌≡◌, ◌<◌, ◌≤◌, ℕ, length}
use Rattle.std.specs.Prelude.{None, slice_index, slice_index_or}
use Rattle.std.specs.Option.{IsSome}
use Rattle.plan_model.specs.Members.{place_count}
use Rattle.train_net.specs.Near.{IsConnectionOf, IsNear, IsNearFrom}
use Rattle.train_net.proofs.near.look_further.Given as goal

-- at each connection the table has who is found from a position on, at the first wanted ones it has somebody, and who
-- stands nearest stays
abbrev pub invariant-loop-from : goal.invariant-loop-from
invariant-loop-from l = record {
  within : l.from ≤ l.before;
  count : length l.near ≡ place_count l.cut;
  kept : (p : ℕ) → p < place_count l.cut → IsNear l.cut l.order l.at p (slice_index_or l.initial.near p None)
      → IsNear l.cut l.order l.at p (slice_index_or l.near p None);
  connections : (p : ℕ) → IsConnectionOf l.cut p → IsNearFrom l.cut l.order l.from l.at p (slice_index_or l.near p None);
  reached : l.found ≤ length l.wanted;
  found : (k : ℕ) → k < l.found → IsSome (slice_index_or l.near (slice_index l.wanted k) None);
}

abbrev pub decreases-loop-from : goal.decreases-loop-from
decreases-loop-from l = l.from
