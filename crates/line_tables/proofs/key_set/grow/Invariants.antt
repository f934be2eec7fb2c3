use Rattle.std.proofs.Common.{◌≡◌, ℕ, ◌-◌, ◌≤◌, length, vec_len, slice_index}
use Rattle.line_tables.proofs.key_set.grow.Given as goal

abbrev pub invariant-loop-words : goal.invariant-loop-words
invariant-loop-words l = record {
  same : (k : ℕ) → slice_index l.words.items k ≡ slice_index l.fn.words.items k;
  longer : length l.fn.words.items ≤ length l.words.items;
}

abbrev pub decreases-loop-words : goal.decreases-loop-words
decreases-loop-words l = l.count - vec_len l.words
