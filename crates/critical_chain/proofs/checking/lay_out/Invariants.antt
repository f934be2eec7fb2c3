use Rattle.std.proofs.Common.{◌≡◌, ℕ, ◌<◌, length}
use Rattle.std.specs.Prelude.{pos, slice_index_or}
use Rattle.critical_chain.specs.Chain.{no_train}
use Rattle.critical_chain.proofs.checking.lay_out.Given as goal

-- the first entries are laid out
abbrev pub invariant-loop-i : goal.invariant-loop-i
invariant-loop-i l = record {
  count : length l.entries ≡ length l.placed;
  each : (k : ℕ) → k < l.i → slice_index_or l.entries k (pos 0) ≡ (slice_index_or l.placed k no_train).entry;
}
