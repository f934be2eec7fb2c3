use Rattle.std.proofs.Common.{◌≡◌, map, take}
use Rattle.capacity_report.specs.Pairs.{name_of}
use Rattle.capacity_report.proofs.headways.member_names.Given as goal

abbrev pub invariant-loop-row : goal.invariant-loop-row
invariant-loop-row l = l.names.items ≡ map name_of (take l.row-index l.cut.rows)
