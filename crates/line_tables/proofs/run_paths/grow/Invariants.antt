use Rattle.std.proofs.Common.{◌≡◌, ℕ, ◌+◌, ◌-◌, ◌≤◌, length, vec_len}
use Rattle.std.specs.Prelude.{slice_index_or}
use Rattle.rail_model.specs.Blocking.{no_hop}
use Rattle.line_tables.proofs.run_paths.grow.Given as goal

abbrev pub invariant-loop-hops : goal.invariant-loop-hops
invariant-loop-hops l = record {
  same : (k : ℕ) → slice_index_or l.hops.items k no_hop ≡ slice_index_or l.fn.hops.items k no_hop;
  longer : length l.fn.hops.items ≤ length l.hops.items;
}

abbrev pub decreases-loop-hops : goal.decreases-loop-hops
decreases-loop-hops l = l.key + 1 - vec_len l.hops
