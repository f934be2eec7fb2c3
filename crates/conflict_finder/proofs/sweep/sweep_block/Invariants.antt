use Rattle.std.proofs.Common.{◌≡◌, ◌++◌, ◌-◌, ◌≤◌, ◌*◌, length, take}
use Rattle.conflict_finder.specs.declared.found.TheConstants.{LISTED}
use Rattle.rail_model.specs.declared.limits.TheConstants.{RUNS, PATH_HOPS}
use Rattle.conflict_finder.specs.ByNumber.{met_upto}
use Rattle.conflict_finder.proofs.sweep.sweep_block.Given as goal

-- the conflicts that are found so far, and how many they may be
abbrev pub invariant-loop-i : goal.invariant-loop-i
invariant-loop-i l = record {
  list : l.list.items ≡ l.fn.list.items ++ take (LISTED - length l.fn.list.items) (met_upto l.run_uses l.i);
  count : l.count ≡ length (met_upto l.run_uses l.i);
  most : l.count ≤ l.i * (RUNS * PATH_HOPS);
}
