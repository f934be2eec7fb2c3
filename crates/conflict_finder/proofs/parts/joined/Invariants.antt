use Rattle.std.proofs.Common.{◌≡◌, ◌≤◌, length, map, take}
use Rattle.std.specs.List.{flat_map, sum_by}
use Rattle.conflict_finder.specs.declared.found.TheConstants.{LISTED}
use Rattle.conflict_finder.specs.ByNumber.{named, count_of}
use Rattle.conflict_finder.proofs.parts.joined.Given as goal

-- what is listed and counted of the parts so far
abbrev pub invariant-loop-part : goal.invariant-loop-part
invariant-loop-part l = record {
  list : l.list.items ≡ map (named l.runs) (take LISTED (flat_map (λ part. part.list.items) (take l.part-index l.found)));
  count : l.count ≡ sum_by count_of (take l.part-index l.found);
  most : length l.list.items ≤ l.count;
}
