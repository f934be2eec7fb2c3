use Rattle.std.proofs.Common.{◌≡◌, ◌<◌, ℕ, length}
use Rattle.std.specs.Prelude.{None, slice_index_or}
use Rattle.occupancy_rate.specs.Spans.{span_upto}
use Rattle.occupancy_rate.proofs.spans.span_all.Given as goal

-- the spans by the first members
abbrev pub invariant-loop-i : goal.invariant-loop-i
invariant-loop-i l = record {
  count : length l.spans ≡ length l.initial.spans;
  each : (b : ℕ) → b < length l.initial.spans → slice_index_or l.spans b None ≡ span_upto l.cut l.entries l.i b;
}
