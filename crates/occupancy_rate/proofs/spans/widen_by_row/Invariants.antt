use Rattle.std.proofs.Common.{◌≡◌, ◌<◌, ℕ, length, take}
use Rattle.std.specs.Prelude.{None, slice_index_or, fold}
use Rattle.occupancy_rate.specs.Spans.{with_use}
use Rattle.occupancy_rate.proofs.spans.widen_by_row.Given as goal

-- the spans with the first uses
abbrev pub invariant-loop-one : goal.invariant-loop-one
invariant-loop-one l = record {
  count : length l.spans ≡ length l.initial.spans;
  all : (b : ℕ) → b < length l.initial.spans → slice_index_or l.spans b None
      ≡ fold (with_use l.row.entry l.entry b) (slice_index_or l.initial.spans b None) (take l.one-index l.row.uses);
}
