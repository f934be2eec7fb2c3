use Rattle.std.proofs.Common.{◌≡◌, ℕ, ◌<◌, true}
use Rattle.std.specs.Prelude.{slice_index_or}
use Rattle.conflict_finder.specs.Sweep.{meets, no_run_use}
use Rattle.conflict_finder.proofs.sweep.count_met.Given as goal

-- it meets those so far
abbrev pub invariant-loop-i : goal.invariant-loop-i
invariant-loop-i l = (k : ℕ) → k < l.i → meets l.one (slice_index_or l.later k no_run_use) ≡ true
