use Rattle.std.proofs.Common.{◌≡◌, ℕ, ◌+◌, take}
use Rattle.line_tables.specs.KeyCounts.{count_of, times}
use Rattle.line_tables.proofs.key_counts.KeyCounts.remove.Given as goal

abbrev pub invariant-loop-key : goal.invariant-loop-key
invariant-loop-key l = (k : ℕ) → count_of l.self-inside.counts.items k + times k (take l.key-index l.keys) ≡ count_of l.initial.self-inside.counts.items k
