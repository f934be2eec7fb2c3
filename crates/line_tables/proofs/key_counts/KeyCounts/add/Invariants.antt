use Rattle.std.proofs.Common.{◌≡◌, ℕ, ◌+◌, length, take}
use Rattle.line_tables.specs.KeyCounts.{count_of, times}
use Rattle.line_tables.proofs.key_counts.KeyCounts.add.Given as goal

abbrev pub invariant-loop-key : goal.invariant-loop-key
invariant-loop-key l = record {
  long : length l.self-inside.counts.items ≡ length l.initial.self-inside.counts.items;
  counted : (k : ℕ) → count_of l.self-inside.counts.items k ≡ count_of l.initial.self-inside.counts.items k + times k (take l.key-index l.keys);
}
