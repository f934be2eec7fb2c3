use Rattle.std.proofs.Common.{◌≡◌, ℕ, ◌+◌, ◌-◌, [], vec_len}
use Rattle.std.specs.Prelude.{slice_index_or}
use Rattle.line_tables.proofs.key_sets.grow.Given as goal

abbrev pub invariant-loop-alloc : goal.invariant-loop-alloc
invariant-loop-alloc l = (x : ℕ) → slice_index_or l.sets.items x [] ≡ slice_index_or l.fn.sets.items x []

abbrev pub decreases-loop-alloc : goal.decreases-loop-alloc
decreases-loop-alloc l = l.at + 1 - vec_len l.sets
