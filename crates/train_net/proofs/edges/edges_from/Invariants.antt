use Rattle.std.proofs.Common.{◌≡◌, ◌<◌, ℕ}
use Rattle.std.specs.Prelude.{None, Some, slice_index_or, All, Any, IfSome}
use Rattle.plan_model.specs.Members.{place_count, no_use}
use Rattle.train_net.specs.declared.near.Near.{Near}
use Rattle.train_net.specs.Net.{IsEdge, Covers}
use Rattle.train_net.specs.Gathered.{with_last}
use Rattle.train_net.proofs.edges.edges_from.Given as goal

-- the edges at the first uses
abbrev pub invariant-loop-one : goal.invariant-loop-one
invariant-loop-one l = record {
  real : All (IsEdge l.cut l.train) (with_last l.edges l.last);
  covered : (k : ℕ) (one : Near) → k < l.one-index
      → slice_index_or l.near (slice_index_or l.one-items k no_use).block None ≡ Some one
      → Any (Covers l.cut one.train l.train (slice_index_or l.one-items k no_use).block) (with_last l.edges l.last);
  there : IfSome l.last (λ e. e.place < place_count l.cut);
}
