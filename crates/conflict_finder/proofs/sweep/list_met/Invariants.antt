use Rattle.std.proofs.Common.{◌≡◌, ◌++◌, map, take}
use Rattle.conflict_finder.specs.ByNumber.{met_of}
use Rattle.conflict_finder.proofs.sweep.list_met.Given as goal

abbrev pub invariant-loop-other : goal.invariant-loop-other
invariant-loop-other l = l.list.items ≡ l.fn.list.items ++ map (met_of l.one) (take l.other-index l.met)
