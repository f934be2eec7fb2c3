use Rattle.std.proofs.Common.{◌+◌, ◌-◌, ◌≤◌, length, vec_len}
use Rattle.line_tables.specs.KeyCounts.{SameCounts}
use Rattle.line_tables.proofs.key_counts.grow.Given as goal

abbrev pub invariant-loop-counts : goal.invariant-loop-counts
invariant-loop-counts l = record {
  same : SameCounts l.fn.counts.items l.counts.items;
  longer : length l.fn.counts.items ≤ length l.counts.items;
}

abbrev pub decreases-loop-counts : goal.decreases-loop-counts
decreases-loop-counts l = l.key + 1 - vec_len l.counts
