use Rattle.std.proofs.Common.{◌≡◌, ◌<◌, ℕ, length}
use Rattle.std.specs.Prelude.{None, slice_index_or}
use Rattle.train_net.specs.Reading.{span_by}
use Rattle.train_net.proofs.ends.spans.Given as goal

-- the spans of the first blocks
abbrev pub invariant-loop-block : goal.invariant-loop-block
invariant-loop-block l = record {
  count : length l.spans.items ≡ l.block;
  each : (b : ℕ) → b < l.block → slice_index_or l.spans.items b None
      ≡ span_by l.cut l.entries (slice_index_or l.first b None) (slice_index_or l.last b None);
}
