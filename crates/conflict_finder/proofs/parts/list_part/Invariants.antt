use Rattle.std.proofs.Common.{◌≡◌, ◌++◌, map, take}
use Rattle.conflict_finder.specs.ByNumber.{named}
use Rattle.conflict_finder.proofs.parts.list_part.Given as goal

abbrev pub invariant-loop-met : goal.invariant-loop-met
invariant-loop-met l = l.list.items ≡ l.fn.list.items ++ map (named l.runs) (take l.met-index l.part)
