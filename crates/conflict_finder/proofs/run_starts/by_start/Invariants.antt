use Rattle.std.proofs.Common.{◌≡◌, ◌<◌, length, map}
use Rattle.std.specs.List.{All, flat_map, range_with_len}
use Rattle.conflict_finder.specs.Runs.{run_use_of, uses_of, run_uses_in_turn}
use Rattle.conflict_finder.proofs.run_starts.by_start.Given as goal

-- the runs so far
abbrev pub invariant-loop-i : goal.invariant-loop-i
invariant-loop-i l = record {
  uses : run_uses_in_turn l.stairs l.starts.items ≡ flat_map (λ k. map (run_use_of k) (uses_of l.stairs l.runs k)) (range_with_len 0 l.i);
  there : All (λ e. e.stair < length l.stairs) l.starts.items;
}
