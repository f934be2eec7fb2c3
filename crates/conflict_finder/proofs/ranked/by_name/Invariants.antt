use Rattle.std.proofs.Common.{◌≡◌, map}
use Rattle.std.specs.List.{range_with_len}
use Rattle.conflict_finder.specs.Runs.{ranked_at}
use Rattle.conflict_finder.proofs.ranked.by_name.Given as goal

-- the runs so far
abbrev pub invariant-loop-i : goal.invariant-loop-i
invariant-loop-i l = l.runs.items ≡ map (ranked_at l.stairs) (range_with_len 0 l.i)
