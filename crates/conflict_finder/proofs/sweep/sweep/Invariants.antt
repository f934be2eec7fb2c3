use Rattle.std.proofs.Common.{◌≡◌, ◌≤◌, ◌*◌, length, take}
use Rattle.conflict_finder.specs.declared.found.TheConstants.{LISTED}
use Rattle.rail_model.specs.declared.limits.TheConstants.{RUNS, PATH_HOPS}
use Rattle.conflict_finder.specs.ByBlock.{one_after_another}
use Rattle.conflict_finder.specs.ByNumber.{met_in_turn}
use Rattle.conflict_finder.proofs.sweep.sweep.Given as goal

-- the conflicts of the lists so far, and how many they may be
abbrev pub invariant-loop-run_uses : goal.invariant-loop-run_uses
invariant-loop-run_uses l = record {
  list : l.list.items ≡ take LISTED (met_in_turn (take l.run_uses-index l.by_block));
  count : l.count ≡ length (met_in_turn (take l.run_uses-index l.by_block));
  most : l.count ≤ length (one_after_another (take l.run_uses-index l.by_block)) * (RUNS * PATH_HOPS);
}
